-- The fields of a line.
use Rattle.std.specs.Prelude.{◌≡◌, ℕ, zero, suc, ◌+◌, ◌<◌, ◌≤◌, cond, ◌⊎◌, List, [], ◌∷◌, ◌++◌, length, ◌==◌, ◌≢◌, slice_index}
use Rattle.fields.specs.Lines.{onto}

-- A line split at every single space.
unfoldable pub split : List ℕ → List (List ℕ)
split [] = [] ∷ []
split (c ∷ cs) = cond (c == 32) ([] ∷ split cs) (onto c (split cs))

-- The fields of a line; an empty line has none.
unfoldable pub fields : List ℕ → List (List ℕ)
fields [] = []
fields (c ∷ cs) = split (c ∷ cs)

-- Fields with one space between them.
unfoldable pub spaced : List (List ℕ) → List ℕ
spaced [] = []
spaced (w ∷ []) = w
spaced (w ∷ (v ∷ vs)) = w ++ 32 ∷ spaced (v ∷ vs)

-- Where field n, from 0, begins in its line: after the fields before it, each with its space.
abbrev pub start : ℕ → List (List ℕ) → ℕ
start zero ws = 0
start (suc n) [] = 0
start (suc n) (w ∷ ws) = length w + 1 + start n ws

-- In u, the byte b stands first at n, or, if n is the length, nowhere.
pub record Cut (b : ℕ) (u : List ℕ) (n : ℕ) : Type 0 where
  pub inside : n ≤ length u
  pub before : (j : ℕ) → j < n → slice_index u j ≢ b
  pub found : (n ≡ length u) ⊎ (slice_index u n ≡ b)
