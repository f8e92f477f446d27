-- Truth values.
use Rattle.std.proofs.Common.{◌≡◌, Bool, true, false, ◌&&◌, sym, refl}
use Rattle.std.proofs.lemmas.Bool.{false≢true}
use Rattle.memory.specs.Layout.{implies}

-- implications as tests
pub implied : (a b : Bool) → implies a b ≡ true → a ≡ true → b ≡ true
implied true b h e = h
implied false b h e = absurd (false≢true e)

pub imply : (a b : Bool) → (a ≡ true → b ≡ true) → implies a b ≡ true
imply true b h = h refl
imply false b h = refl

-- two tests that hold together
pub both_or_none : (a b : Bool) → (a ≡ true → b ≡ true) → (b ≡ true → a ≡ true) → a ≡ b
both_or_none true b f g = sym (f refl)
both_or_none false true f g = g refl
both_or_none false false f g = refl

-- a test within another
pub and_cases : (a b c : Bool) → (a ≡ true → c ≡ b) → (a ≡ false → c ≡ false) → c ≡ (a && b)
and_cases true b c f g = f refl
and_cases false b c f g = g refl
