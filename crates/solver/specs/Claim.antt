-- The whole claim: what holds of every list of calls on one empty notebook and one set of equations, refused calls among them. It has
-- three parts, (a), (b) and (c), and a consequence. Each says what holds after each call, by the equations as they then stand.
use Rattle.std.specs.Prelude.{◌≡◌, ℕ, ◌+◌, true, false, List, [], ◌∷◌, ◌++◌, length, take, Some, None, Ok, Err, Result}
use Rattle.equations.specs.Systems.{System}
use Rattle.equations.specs.Runs.{has}
use Rattle.equations.specs.Edits.{Kept}
use Rattle.equations.specs.Semantics.{Semantics, system_of}
use Rattle.equations.specs.Listings.{listed, Closed, Least, right_hand_side}
use Rattle.equations.specs.Notebook.{Notebook, empty}
use Rattle.equations.specs.Removals.{Removed}
use Rattle.equations.specs.Chains.{ChainOfAsks}
use Rattle.equations.specs.Invariant.{Distinct}
use Rattle.memory.specs.Capacity.{Capacity}
use Rattle.solver.specs.declared.faults.Fault.{Fault}
use Rattle.solver.specs.declared.faults.EditFault.{EditFault}
use Rattle.solver.specs.declared.calls.Call.{Call}
use Rattle.solver.specs.declared.calls.Call.TheVariants.{Ask, Look, Edit, Clear}
use Rattle.solver.specs.declared.calls.Answer.{Answer}
use Rattle.solver.specs.declared.calls.Answer.TheVariants.{Asked, Looked, Edited, Cleared}
use Rattle.solver.specs.Faults.{ask_refusal, edit_refusal}
use Rattle.solver.specs.Calls.{Carried, Asked as AskedFor}

-- (a) Every value is the smallest possible: each closed listing that covers its own right-hand sides gives at least as much to an unknown
-- that it lists.
abbrev pub Smallest : {V : Type 0} → System V → Notebook V → Type 0
Smallest E N = Least E N.value

-- (b) The notebook is closed: the run of each entry asks only for entries. Each value equals its right-hand side. The entries that are
-- counted are those that have a value, each once.
pub record Solved {V : Type 0} (E : System V) (N : Notebook V) : Type 0 where
  pub closed : Closed E N.value
  pub equal : (x : ℕ) (v : V) → N.value x ≡ Some v → v ≡ right_hand_side E N.value x
  pub entries : (x : ℕ) → has N.entries x ≡ listed N.value x
  pub once : Distinct N.entries

-- (b) An ask for q that is not refused adds exactly the entries of its steps, and none if q has one. It removes none: every earlier entry
-- stands with its value. It answers the value of q that is then in the notebook, and how many entries it added.
pub record Answered {V : Type 0} (E : System V) (N : Notebook V) (q : ℕ) (N' : Notebook V) (v : V) (k : ℕ) : Type 0 where
  pub steps : Carried E N q N'
  pub keeps : (x : ℕ) (w : V) → N.value x ≡ Some w → N'.value x ≡ Some w
  pub value : N'.value q ≡ Some v
  pub added : length N'.entries ≡ length N.entries + k

-- (c) An edit that is not refused removes an entry only if a chain of asks, each made under values no greater than those stored, leads from
-- it to a touched unknown; and it removes exactly those from which a chain of recorded reads does. It adds none, and all other values stay.
-- It answers how many entries it removed. The equations have then made the change: `changed e change e'` is what they promise of it.
pub record Removes {S C V F : Type 0} (sem : Semantics S C V F) (changed : S → C → S → Type 0) (e : S) (N : Notebook V) (change : C) (e' : S) (N' : Notebook V) (k : ℕ) : Type 0 where
  pub made : changed e change e'
  pub equations : Kept (sem.meaning e) (sem.meaning e') (sem.touched e change)
  pub chain : (x : ℕ) → listed N.value x ≡ true → listed N'.value x ≡ false → (t : ℕ) × ChainOfAsks (system_of sem e) N x t × (sem.touched e change t ≡ true)
  pub exactly : Removed N (sem.touched e change) N'
  pub others : (x : ℕ) (v : V) → N'.value x ≡ Some v → N.value x ≡ Some v
  pub removed : length N.entries ≡ length N'.entries + k

-- One call, with its answer, on the equations e and a notebook N with room for c unknowns, and what it makes of both: asks, looks and clears
-- as (b) says, edits as (c) says. A call is refused exactly if it has a refusal, and then changes nothing.
pub data Made {S C V F : Type 0} (sem : Semantics S C V F) (changed : S → C → S → Type 0) (c : ℕ) (e : S) (N : Notebook V) : Call C → Answer V F → S → Notebook V → Type 0 where
  ask_refused : {fault : Fault} (q : ℕ) → ask_refusal c (system_of sem e).size q ≡ Some fault → Made sem changed c e N (Ask q) (Asked (Err fault)) e N
  ask_answered : {N' : Notebook V} {v : V} {k : ℕ} (q : ℕ) → ask_refusal c (system_of sem e).size q ≡ None → Answered (system_of sem e) N q N' v k
      → Made sem changed c e N (Ask q) (Asked (Ok (v, k))) e N'
  looked : (x : ℕ) → Made sem changed c e N (Look x) (Looked (N.value x)) e N
  cleared : Made sem changed c e N Clear Cleared e empty
  edit_refused : {fault : EditFault F} (change : C) → edit_refusal c (system_of sem e).size (sem.refusal e change) ≡ Some fault
      → Made sem changed c e N (Edit change) (Edited (Err fault)) e N
  edit_answered : {e' : S} {N' : Notebook V} {k : ℕ} (change : C) → edit_refusal c (system_of sem e).size (sem.refusal e change) ≡ None
      → Removes sem changed e N change e' N' k → Made sem changed c e N (Edit change) (Edited (Ok k)) e' N'

-- The answer to an ask but for the count of entries.
abbrev pub said : {V : Type 0} → Result (V × ℕ) Fault → Result V Fault
said (Ok (v, k)) = Ok v
said (Err fault) = Err fault

-- The consequence: an ask of the notebook answers what an ask of a new notebook over the same equations answers.
abbrev pub AsNew : {V : Type 0} → System V → ℕ → Notebook V → Type 0
AsNew {V} E c N = (q : ℕ) (N₁ N₂ : Notebook V) (r new : Result (V × ℕ) Fault) → AskedFor E c N q N₁ r → AskedFor E c empty q N₂ new → said r ≡ said new

-- A list of calls with their answers, from the equations e₀ and the empty notebook on: how each call leads from one state to the next, and
-- what holds of the state that it leads to.
pub data Replayed {S C V F : Type 0} (sem : Semantics S C V F) (changed : S → C → S → Type 0) (c : ℕ) (e₀ : S) : List (Call C) → List (Answer V F) → S → Notebook V → Type 0 where
  begins : Replayed sem changed c e₀ [] [] e₀ empty
  goes_on : {calls : List (Call C)} {answers : List (Answer V F)} {call : Call C} {answer : Answer V F} {e e' : S} {N N' : Notebook V}
      → Replayed sem changed c e₀ calls answers e N
      → Made sem changed c e N call answer e' N'
      → Smallest (system_of sem e') N'
      → Solved (system_of sem e') N'
      → AsNew (system_of sem e') c N'
      → Replayed sem changed c e₀ (calls ++ (call ∷ [])) (answers ++ (answer ∷ [])) e' N'

-- The claim about the first m of a list of calls and of the places for their answers, on a notebook that has room for c unknowns and begins
-- empty: it leads from the equations e₀ to e, and the notebook then holds N.
abbrev pub ClaimOn : {S C V F : Type 0} → Semantics S C V F → (S → C → S → Type 0) → ℕ → ℕ → S → List (Call C) → List (Answer V F) → S → Notebook V → Type 0
ClaimOn sem changed c m e₀ calls answers e N = Replayed sem changed c e₀ (take m calls) (take m answers) e N

-- The claim about a list of calls and their answers, on a notebook over so many cells and link words.
pub record Claim {S C V F : Type 0} (sem : Semantics S C V F) (changed : S → C → S → Type 0) (cells links : ℕ) (e₀ : S) (calls : List (Call C)) (answers : List (Answer V F)) (e : S) : Type 0 where
  pub capacity : ℕ
  pub largest : Capacity cells links capacity
  pub notebook : Notebook V
  pub replayed : Replayed sem changed capacity e₀ calls answers e notebook
