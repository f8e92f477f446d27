-- Runs: what the run of an unknown asks for and answers, if each ask for y is given ρ y.
use Rattle.std.specs.Prelude.{ℕ, zero, suc, Bool, false, ◌||◌, List, [], ◌∷◌, ◌++◌, ◌==◌}
use Rattle.equations.specs.declared.Move.{Move}
use Rattle.equations.specs.declared.Move.TheVariants.{Ask, Answer}
use Rattle.equations.specs.Systems.{System}

-- A run answers after at most so many asks.
abbrev pub ask_limit : ℕ
ask_limit = 1024

-- Whether a list has a number.
abbrev pub has : List ℕ → ℕ → Bool
has [] y = false
has (x ∷ xs) y = y == x || has xs y

-- By cases on a move.
abbrev pub on_move : {V A : Type 0} → (ℕ → A) → (V → A) → Move V → A
on_move ask answer (Ask y) = ask y
on_move ask answer (Answer v) = answer v

-- The course of a run: the unknowns that it asked for, in order, and its answer.
pub record Course (V : Type 0) : Type 0 where
  pub asked : List ℕ
  pub answer : V

-- The rest of a run after the list of values given. It asks at most `left` times more: a run that would ask once more is stopped,
-- with the answer `stop`.
unfoldable pub run : {V : Type 0} → V → (List V → Move V) → (ℕ → V) → ℕ → List V → Course V
run stop next ρ zero given = on_move (λ y. record { asked = []; answer = stop }) (λ v. record { asked = []; answer = v }) (next given)
run stop next ρ (suc left) given =
    on_move
    (λ y. record { asked = y ∷ (run stop next ρ left (given ++ (ρ y ∷ []))).asked; answer = (run stop next ρ left (given ++ (ρ y ∷ []))).answer })
    (λ v. record { asked = []; answer = v })
    (next given)

-- What the run of x asks for under the values ρ.
unfoldable pub asked : {V : Type 0} → System V → ℕ → (ℕ → V) → List ℕ
asked E x ρ = (run E.kind.bottom (E.moves x) ρ ask_limit []).asked

-- What the run of x answers under the values ρ: the value of its right-hand side.
unfoldable pub answer : {V : Type 0} → System V → ℕ → (ℕ → V) → V
answer E x ρ = (run E.kind.bottom (E.moves x) ρ ask_limit []).answer
