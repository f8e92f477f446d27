-- A program that is written reads back.
use Rattle.std.proofs.Common.{◌≡◌, ℕ, List, length, take, Ok, Result, sym, ap, ◌∙◌, subst, arith}
use Rattle.std.proofs.lemmas.List.{take-append-le, take_all}
use Rattle.std.proofs.lemmas.Grind.{common_steps}
use Rattle.drive.specs.declared.program.Program.{Program}
use Rattle.drive.specs.Programs.{lines_of, at}
use Rattle.drive.proofs.Programs.{sound, known_by_lines}
use Rattle.fields.specs.declared.reader.Reader.{Reader}
use Rattle.fields.specs.Readers.{text_of, place_of}
use Rattle.text.specs.declared.fault.Refusal.{Refusal}
use Rattle.text.specs.declared.order.Order.TheVariants.{OpAB}
use Rattle.text.specs.Rendering.{render}
use Rattle.text.specs.Reading.{Table, reading}
use Rattle.text.specs.Steps.{Reads}
use Rattle.text.specs.Theory.{Sixteen, Valid}
use Rattle.writer.specs.Pages.{answer, output}
use Rattle.text.proofs.Whole.{round_trip}

pub written_all : (bs out : List ℕ) (n : ℕ) → Ok n ≡ answer bs out → (n ≡ length bs) × (take n (output bs out) ≡ bs)
written_all bs out n e = grind (arith, common_steps, take-append-le, take_all)

module _ (program old new : Program) (out : List ℕ) (n : ℕ) (x now : Reader) (r : Result (ℕ × ℕ) Refusal) (numbers : (p : ℕ) → Sixteen (at (lines_of program) p))
    (wrote : Ok n ≡ answer (render OpAB (lines_of program)) out) (over : text_of x ≡ take n (output (render OpAB (lines_of program)) out))
    (front : place_of x ≡ 0) (h : Reads x now old new (reading (text_of x) (place_of x)) r) where
  pub back : (r ≡ Ok (length (lines_of program), n)) × (new ≡ program)
  back =
      let v : Valid (lines_of program) = record { sound = sound program; numbers = numbers } in
      let w = written_all (render OpAB (lines_of program)) out n wrote in
      let e = (λ j. reading ((over ∙ w.1) j) (front j)) ∙ round_trip OpAB (lines_of program) v in
      let got = subst (λ (w : Result Table Refusal). Reads x now old new w r) e h in
      (got.0 ∙ ap (λ k. Ok (length (lines_of program), k)) (sym w.0), known_by_lines new program got.3)
