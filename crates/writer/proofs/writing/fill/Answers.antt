use Rattle.std.proofs.Common.{◌≡◌, ℕ, zero, suc, List, [], ◌∷◌, ◌++◌, length, pos, codes, ap, ◌∙◌, append_assoc, append-nil, arith}
use Rattle.std.proofs.lemmas.List.{take_more}
use Rattle.std.proofs.lemmas.Grind.{flat_map-append}
use Rattle.drive.specs.declared.line.Line.{Line}
use Rattle.drive.specs.declared.line.Line.TheVariants.{Set}
use Rattle.drive.specs.Programs.{at}
use Rattle.fields.specs.Fields.{spaced}
use Rattle.text.specs.declared.order.Order.TheVariants.{OpAB}
use Rattle.text.specs.Rendering.{render, value_line}
use Rattle.text.specs.Theory.{Sixteen}
use Rattle.writer.proofs.writing.fill.Goals as goal

-- One line more.
rendered : (P : List Line) (l : Line) → render OpAB P ++ (value_line OpAB l ++ 10 ∷ []) ≡ render OpAB (P ++ l ∷ [])
rendered P l = simp (flat_map-append, append_assoc, append-nil)

sixteen : (P : List Line) (l : Line) → ((p : ℕ) → Sixteen (at P p)) → Sixteen l → (p : ℕ) → Sixteen (at (P ++ l ∷ []) p)
sixteen [] l before here zero = here
sixteen [] l before here (suc p) = tt
sixteen (k ∷ P) l before here zero = before 0
sixteen (k ∷ P) l before here (suc p) = sixteen P l (λ q. before (suc q)) here p

pub loop-line-init : goal.loop-line-init
unfolding spaced
loop-line-init c =
    let names = c.push_str.ensures.bytes ∙ ap (λ w. w ++ codes "op a b\n") c.requires in
    record { is = names; short = omega (arith, ap length names); numbers = λ p. tt }

pub loop-line-preserved : goal.loop-line-preserved
loop-line-preserved c =
    let before = c.loop-line.invariant in
    rw (take_more c.lines-line-items.result.now c.loop-line.line-index (Set 0 (pos 0)) c.loop-line-test.true) (record {
      is = rw (c.row.ensures.value, before.is) (rendered _ _);
      short = omega (arith, c.row.ensures.fits);
      numbers = sixteen _ _ before.numbers c.row.ensures.number;
    })
