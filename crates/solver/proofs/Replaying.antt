-- One call more of a list.
use Rattle.std.proofs.Common.{◌≡◌, ℕ, ◌+◌, ◌<◌, ◌≤◌, min, List, [], ◌∷◌, ◌++◌, length, get_or, take, set, Option, sym, ap, ◌∙◌, subst, arith}
use Rattle.std.proofs.lemmas.List.{length-take, take_all, take-append-le, take_more, take_more_set}
use Rattle.equations.specs.Semantics.{Semantics, system_of, AlwaysLawful}
use Rattle.equations.specs.Notebook.{Notebook, empty}
use Rattle.equations.specs.Invariant.{Valid}
use Rattle.equations.proofs.Values.{empty_valid}
use Rattle.solver.specs.declared.calls.Call.{Call}
use Rattle.solver.specs.declared.calls.Call.TheVariants.{Look, Clear}
use Rattle.solver.specs.declared.calls.Answer.{Answer}
use Rattle.solver.specs.declared.calls.Answer.TheVariants.{Looked, Cleared}
use Rattle.solver.specs.Claim.{Made, Made.looked, Made.cleared, Replayed, Replayed.begins, Replayed.goes_on, ClaimOn}
use Rattle.solver.proofs.Validity.{smallest, solved, as_new}

-- an index into the first n of a list
pub place : {X : Type 0} (k n : ℕ) (xs : List X) → k < length (take n xs) → (k < n) × (k < length xs)
place k n xs below = (omega (arith, length-take n xs, below), omega (arith, length-take n xs, below))

-- a loop over the first n of a list ends after all that there are
pub ended : {X : Type 0} (k n : ℕ) (xs : List X) → length (take n xs) ≤ k → k ≤ length (take n xs) → k ≡ min n (length xs)
ended k n xs over within = omega (arith, length-take n xs, over, within)

module _ {S C V F : Type 0} (sem : Semantics S C V F) (changed : S → C → S → Type 0) (c : ℕ) (e : S) (N : Notebook V) where
  pub look_made : (x : ℕ) (r : Option V) → r ≡ N.value x → Made sem changed c e N (Look x) (Looked r) e N
  look_made x r h = subst (λ (o : Option V). Made sem changed c e N (Look x) (Looked o) e N) (sym h) (looked x)

  pub clear_made : (N' : Notebook V) → N' ≡ empty → Made sem changed c e N Clear Cleared e N'
  clear_made N' h = subst (λ (M : Notebook V). Made sem changed c e N Clear Cleared e M) (sym h) cleared

module _ {S C V F : Type 0} (sem : Semantics S C V F) (changed : S → C → S → Type 0) (lawful : AlwaysLawful sem) where
  pub none_valid : (e : S) (N : Notebook V) → N ≡ empty → Valid (system_of sem e) N
  none_valid e N h = subst (λ (M : Notebook V). Valid (system_of sem e) M) (sym h) (empty_valid (system_of sem e) (lawful e))

  module _ (c : ℕ) (e₀ : S) where
    pub replayed_none : (N : Notebook V) → N ≡ empty → Replayed sem changed c e₀ [] [] e₀ N
    replayed_none N q = subst (λ (M : Notebook V). Replayed sem changed c e₀ [] [] e₀ M) (sym q) begins

    -- one call more is made, and its answer is written in the next place
    pub replayed_more : (calls : List (Call C)) (answers : List (Answer V F)) (i : ℕ) (call : Call C) (answer : Answer V F) (e e' : S) (N N' : Notebook V)
        → i < length calls → i < length answers → call ≡ get_or calls i call
        → ClaimOn sem changed c i e₀ calls answers e N → Made sem changed c e N call answer e' N' → Valid (system_of sem e') N'
        → ClaimOn sem changed c (i + 1) e₀ calls (set answers i answer) e' N'
    replayed_more calls answers i call answer e e' N N' more room is replayed made valid =
        let a : take (i + 1) calls ≡ take i calls ++ (call ∷ []) = take_more calls i call more ∙ ap (λ x. take i calls ++ (x ∷ [])) (sym is) in
        let b : take (i + 1) (set answers i answer) ≡ take i answers ++ (answer ∷ []) = take_more_set answers i answer room in
        rw (a, b) (goes_on replayed made (smallest (system_of sem e') (lawful e') N' valid) (solved (system_of sem e') (lawful e') N' valid) (as_new (system_of sem e') (lawful e') c N' valid))

    -- where there is a place for each answer, the claim is about the whole lists
    pub whole : (m len : ℕ) (calls : List (Call C)) (places answers more : List (Answer V F)) (e : S) (N : Notebook V)
        → m ≡ min (length calls) (length places) → length answers ≡ length places → length places ≡ len → len ≡ length calls
        → ClaimOn sem changed c m e₀ calls answers e N → Replayed sem changed c e₀ calls (take len (answers ++ more)) e N
    whole m len calls places answers more e N is long placed all claim =
        let a : take m calls ≡ calls = take_all m calls (omega (arith, is, long, placed, all)) in
        let b : take m answers ≡ answers = take_all m answers (omega (arith, is, long, placed, all)) in
        let d : take len (answers ++ more) ≡ answers = take-append-le len answers more (omega (arith, long, placed)) ∙ take_all len answers (omega (arith, long, placed)) in
        subst (λ (cs : List (Call C)). Replayed sem changed c e₀ cs (take len (answers ++ more)) e N) a
        (subst (λ (ys : List (Answer V F)). Replayed sem changed c e₀ (take m calls) ys e N) (b ∙ sym d) claim)
