use Rattle.std.proofs.Common.{◌≡◌, ℕ, ◌-◌, ◌*◌, ◌/◌, ◌<◌, ◌≤◌, ⊎_elim, arith}
use Rattle.std.proofs.Math.Nat.{div-mul-le_self}
use Rattle.std.proofs.lemmas.Bool.{cases_lt}
use Rattle.std.proofs.lemmas.Nat.{mul-le, le-div}
use Rattle.memory.specs.Capacity.{Fits}
use Rattle.memory.specs.Layout.{width}
use Rattle.memory.proofs.capacity.capacity.Goals as goal

-- the unknowns whose rows have w words
words : (w c : ℕ) → 1 ≤ w → 64 * (w - 1) < c → c ≤ 64 * w → width c ≡ w
words w c some above below = omega arith

-- as many fit as there are links for
rows_fit : (w c links : ℕ) → width c ≡ w → c ≤ links / w → c * width c ≤ links
rows_fit w c links e few = rw e (omega (arith, mul-le c w (links / w) w few (omega arith), div-mul-le_self links w))

fits_within : (cells links w d : ℕ) → 1 ≤ w → width d ≡ w → Fits cells links d → d ≤ links / w
fits_within cells links w d some e fits = le-div d links w some (rw e at fits.row)

pub returns-then-c-w : goal.returns-then-c-w
returns-then-c-w c = record {
  fits = record {
    few = omega arith;
    cell = omega arith;
    row = rows_fit c.loop-w.w c.min-c.result c.args.links (words _ _ (omega arith) (omega arith) (omega arith)) (omega arith);
  };
  largest = λ d fits. ⊎_elim
      (λ above.
      let within : d ≤ 64 * c.loop-w.w = c.loop-w.invariant d fits in
      let most = fits_within c.args.cells c.args.links c.loop-w.w d (omega arith) (words _ _ (omega arith) above within) fits in
      omega arith)
      (λ below. omega arith)
      (cases_lt (64 * (c.loop-w.w - 1)) d);
}
