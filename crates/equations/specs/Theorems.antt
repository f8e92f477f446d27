-- What is proved of every set of equations, whatever was asked, looked up, edited and cleared before.
use Rattle.std.specs.Prelude.{◌≡◌, ℕ, ◌<◌, Bool, true, false, ◌↔◌, List, map, Some, ◌≢◌}
use Rattle.equations.specs.declared.Move.TheVariants.{Answer}
use Rattle.equations.specs.Runs.{asked, answer}
use Rattle.equations.specs.Semantics.{Semantics, system_of}
use Rattle.equations.specs.Listings.{listed, Least, Solution}
use Rattle.equations.specs.Notebook.{Notebook, Keeps, values}
use Rattle.equations.specs.Steps.{State, Step, Steps, Ask, start, joined, rose}
use Rattle.equations.specs.Removals.{Removed}
use Rattle.equations.specs.Chains.{ChainOfAsks}
use Rattle.equations.specs.Histories.{Call, History}
use Rattle.equations.specs.Measure.{measure}

-- The definitions say what they should: a run that is given the values of what it asks for then answers; and a value rose exactly if its
-- join with the answer is another value.
pub record RunsAnswer {S C V F : Type 0} (sem : Semantics S C V F) : Type 0 where
  pub answers : (e : S) (x : ℕ) → x < (sem.meaning e).size → (ρ : ℕ → V)
      → (sem.meaning e).moves x (map ρ (asked (system_of sem e) x ρ)) ≡ Answer (answer (system_of sem e) x ρ)
  pub rises : (e : S) (x : ℕ) (s : State V) → (rose (system_of sem e) x s ≡ true) ↔ (joined (system_of sem e) x s ≢ values (system_of sem e) s.notebook x)

-- (a) Every value is the smallest possible.
abbrev pub ValuesAreLeast : {S C V F : Type 0} → Semantics S C V F → Type 0
ValuesAreLeast {S} {C} {V} sem = (e₀ e : S) (calls : List (Call C)) (N : Notebook V) → History sem e₀ calls e N → Least (system_of sem e) N.value

-- (b) The notebook is closed, and each value equals its right-hand side. An ask lists its unknown, removes no entry and changes none.
pub record NotebooksAreSolved {S C V F : Type 0} (sem : Semantics S C V F) : Type 0 where
  pub solved : (e₀ e : S) (calls : List (Call C)) (N : Notebook V) → History sem e₀ calls e N → Solution (system_of sem e) N.value
  pub lists : (e : S) (N N' : Notebook V) (q : ℕ) → Ask (system_of sem e) N q N' → listed N'.value q ≡ true
  pub keeps : (e₀ e : S) (calls : List (Call C)) (N N' : Notebook V) (q : ℕ) → History sem e₀ calls e N → Ask (system_of sem e) N q N' → Keeps N N'

-- (c) An edit removes an entry only if a chain of asks leads from it to a touched unknown; all others keep their values and reads. There
-- always is such a removal.
pub record EditsRemoveWhatAsks {S C V F : Type 0} (sem : Semantics S C V F) : Type 0 where
  pub chain : (e₀ e : S) (calls : List (Call C)) (N N' : Notebook V) (change : C) → History sem e₀ calls e N → Removed N (sem.touched e change) N'
      → (x : ℕ) → listed N.value x ≡ true → listed N'.value x ≡ false
      → (t : ℕ) × ChainOfAsks (system_of sem e) N x t × (sem.touched e change t ≡ true)
  pub removes : (e₀ e : S) (calls : List (Call C)) (N : Notebook V) (change : C) → History sem e₀ calls e N → (N' : Notebook V) × Removed N (sem.touched e change) N'
  pub others : (N N' : Notebook V) (touched : ℕ → Bool) → Removed N touched N'
      → (x : ℕ) → listed N'.value x ≡ true → (N'.value x ≡ N.value x) × ((y : ℕ) → N'.reads x y ≡ N.reads x y)

-- (d) From any notebook, a number falls with each step of an ask; so every ask ends, and with one result.
pub record AsksEnd {S C V F : Type 0} (sem : Semantics S C V F) : Type 0 where
  pub falls : (e : S) (N : Notebook V) (q : ℕ) → q < (sem.meaning e).size → (s t : State V)
      → Steps (system_of sem e) (start (system_of sem e) N q) s → Step (system_of sem e) s t → measure (system_of sem e) t < measure (system_of sem e) s
  pub ends : (e : S) (N : Notebook V) (q : ℕ) → q < (sem.meaning e).size → listed N.value q ≡ false → (N' : Notebook V) × Ask (system_of sem e) N q N'
  pub one : (e : S) (N N₁ N₂ : Notebook V) (q : ℕ) → Ask (system_of sem e) N q N₁ → Ask (system_of sem e) N q N₂ → N₁ ≡ N₂

-- So an answer does not depend on the past: where two notebooks over equations of the same meaning list an unknown, they give it one value.
abbrev pub AnswersAreAsNew : {S C V F : Type 0} → Semantics S C V F → Type 0
AnswersAreAsNew {S} {C} {V} sem = (e₀ e e₀' e' : S) (calls calls' : List (Call C)) (N N' : Notebook V)
    → History sem e₀ calls e N → History sem e₀' calls' e' N' → sem.meaning e ≡ sem.meaning e'
    → (x : ℕ) (v v' : V) → N.value x ≡ Some v → N'.value x ≡ Some v' → v ≡ v'
