-- The lines of a text.
use Rattle.std.specs.Prelude.{ℕ, zero, suc, ◌+◌, Bool, true, cond, ◌||◌, List, [], ◌∷◌, length, take, ◌==◌, nat_le}

-- A byte in front of the first part.
unfoldable pub onto : ℕ → List (List ℕ) → List (List ℕ)
onto c [] = (c ∷ []) ∷ []
onto c (w ∷ ws) = (c ∷ w) ∷ ws

-- The lines of a text: each ends with byte 10, which the last may lack.
unfoldable pub lines : List ℕ → List (List ℕ)
lines [] = []
lines (c ∷ cs) = cond (c == 10) ([] ∷ lines cs) (onto c (lines cs))

-- What follows the first n lines of a text.
unfoldable pub after : ℕ → List ℕ → List ℕ
after zero t = t
after (suc n) [] = []
after (suc n) (c ∷ cs) = cond (c == 10) (after n cs) (after (suc n) cs)

-- The text is empty or ends with byte 10.
abbrev pub closed : List ℕ → Bool
closed [] = true
closed (c ∷ []) = c == 10
closed (c ∷ (d ∷ ds)) = closed (d ∷ ds)

-- A line begins at byte p, or the text ends there.
abbrev pub begins_line : List ℕ → ℕ → Bool
begins_line t p = nat_le (length t) p || closed (take p t)

-- The number, from 1, of the line that begins at byte p of the text.
abbrev pub line_at : List ℕ → ℕ → ℕ
line_at t p = length (lines (take p t)) + 1
