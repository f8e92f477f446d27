use Rattle.std.proofs.Common.{◌≡◌, ℕ, take, Ok, refl, ap, ◌∙◌}
use Rattle.text.proofs.Whole.{round_trip}
use Rattle.writer.proofs.Trips.{back}
use Rattle.writer.proofs.round_trip.write_and_read.Goals as goal

pub returns-in_err-n-clause-theorem : goal.returns-in_err-n-clause-theorem
returns-in_err-n-clause-theorem c = round_trip

pub unwrap-place-requires : goal.unwrap-place-requires
unwrap-place-requires c =
    let b = back c.args.program.now _ _ c.args.out.now _ c.new.result _ _ c.write_program.ensures.numbers c.in_ok-n.ensures.value (c.new.ensures.over ∙ ap (take c.in_ok-n.n) c.write_program.ensures.output) c.new.ensures.front c.read_program.ensures.value in
    rw (b.0) refl

pub returns : goal.returns
returns c =
    let b = back c.args.program.now _ _ c.args.out.now _ c.new.result _ _ c.write_program.ensures.numbers c.in_ok-n.ensures.value (c.new.ensures.over ∙ ap (take c.in_ok-n.n) c.write_program.ensures.output) c.new.ensures.front c.read_program.ensures.value in
    let place : ◌≡◌ {A = ℕ} c.unwrap-place.result.1 c.in_ok-n.n = cc in
    record {
      value = ap Ok place ∙ c.in_ok-n.ensures.value;
      output = c.write_program.ensures.output;
      back = b.1;
      theorem = round_trip;
    }
