use Rattle.std.proofs.Common.{◌≡◌, ℕ, List, [], get_or, drop, Some, None, Err, Bor, Option, Result, refl, ap, ◌∙◌, sym, arith}
use Rattle.std.specs.Option.{ok_or}
use Rattle.std.specs.Result.{MatchResult}
use Rattle.fields.specs.Lines.{lines}
use Rattle.fields.specs.Fields.{fields}
use Rattle.text.specs.declared.fault.InputFault.{InputFault}
use Rattle.text.specs.declared.fault.InputFault.TheVariants.{Names}
use Rattle.text.specs.declared.fault.Cause.TheVariants.{Input}
use Rattle.text.specs.declared.fault.Refusal.{Refusal}
use Rattle.text.specs.declared.order.Order.{Order}
use Rattle.fields.specs.Readers.{Taken, text_of, place_of, number_of, next_of}
use Rattle.text.specs.Reading.{bad_names, order_of}
use Rattle.text.specs.Names.{named, names_read}
use Rattle.text.proofs.names.read_names.Goals as goal

unnamed : (found : Option Order) (r : Result Order InputFault) (fault : InputFault) → r ≡ ok_or found Names → r ≡ Err fault → (Names ≡ fault) × (found ≡ None)
unnamed None r fault h e = (cc, refl)
unnamed (Some o) r fault h e = let z : ◌≡◌ {A = ℕ} 0 1 = cc in absurd (omega arith)

-- No line, or a line that is none of the six.
refused : (t : List ℕ) (p q k : ℕ) (line : Option (Bor (List ℕ))) (r : Result Order InputFault) (fault : InputFault) → Taken t p q line
    → MatchResult (ok_or line Names) (λ l. r ≡ ok_or (order_of l.now) Names) (λ e. r ≡ Err e) → r ≡ Err fault
    → (Names ≡ fault) × (◌≡◌ {A = Result Order Refusal} (bad_names k (fields (get_or (lines (drop p t)) 0 []))) (names_read k (lines (drop p t))))
unfolding fields
refused t p q k None r fault (none, stays) h e = (cc, rw none)
refused t p q k (Some l) r fault (is, past, counted) h e =
    let (same, unknown) = unnamed (order_of l.now) r fault h e in
    (same, rw is (ap (named k (l.now)) (sym unknown)))

pub returns-in-Err-clause-value : goal.returns-in-Err-clause-value
returns-in-Err-clause-value c =
    let reader = c.args.reader.now in
    let (same, is) = refused (text_of reader) (place_of reader) _ (number_of reader) c.line.result c.and_then.result c.in-Err.fault c.line.ensures.taken
    (rw (← c.ok_or.ensures.value) c.and_then.ensures) c.in-Err.is in
    let told : ◌≡◌ {A = Result Order Refusal} (Err (record { cause = c.into.result; line = c.line_number.result; field = c.bad_name.result })) (bad_names (number_of reader) (fields (next_of reader))) =
    λ j. Err (record { cause = (c.into.ensures ∙ ap Input (sym same)) j; line = c.line_number.ensures.value j; field = c.bad_name.ensures j }) in
    told ∙ is
