-- The steps of an ask.
use Rattle.std.specs.Prelude.{◌≡◌, ℕ, ◌<◌, Bool, false, cond, not, ◌&&◌, ◌||◌, List, [], ◌∷◌, Some, None, Option, ◌==◌, nat_eq, nat_lt}
use Rattle.std.specs.Map.{update}
use Rattle.equations.specs.Systems.{System}
use Rattle.equations.specs.Runs.{has, asked, answer}
use Rattle.equations.specs.Listings.{listed}
use Rattle.equations.specs.Notebook.{Notebook, values}

-- A notebook in the course of an ask, with the unknowns that wait to be run.
pub record State (V : Type 0) : Type 0 where
  pub notebook : Notebook V
  pub waiting : ℕ → Bool

-- The first of a list that passes a test.
abbrev pub first : (ℕ → Bool) → List ℕ → Option ℕ
first test [] = None
first test (x ∷ xs) = cond (test x) (Some x) (first test xs)

-- The waiting entry that was entered last.
abbrev pub latest : {V : Type 0} → State V → Option ℕ
latest s = first s.waiting s.notebook.entries

-- The first unknown without an entry that the run of x asks for, over the notebook's values.
abbrev pub missing : {V : Type 0} → System V → State V → ℕ → Option ℕ
missing E s x = first (λ y. not (listed s.notebook.value y)) (asked E x (values E s.notebook))

-- y is entered with bottom, and waits.
abbrev pub enter : {V : Type 0} → System V → ℕ → State V → State V
enter E y s = record {
  notebook = record {
    value = update nat_eq s.notebook.value y (Some E.kind.bottom);
    entries = y ∷ s.notebook.entries;
    reads = s.notebook.reads;
  };
  waiting = λ z. (z == y) || s.waiting z;
}

-- The value of x joined with the answer of its run, and whether that is strictly above the value of x: whether it has a higher rank.
abbrev pub joined : {V : Type 0} → System V → ℕ → State V → V
joined E x s = E.kind.join (values E s.notebook x) (answer E x (values E s.notebook))

abbrev pub rose : {V : Type 0} → System V → ℕ → State V → Bool
rose E x s = nat_lt (E.kind.rank (values E s.notebook x)) (E.kind.rank (joined E x s))

-- The recorded reads, with those of the run of x.
abbrev pub recorded : {V : Type 0} → System V → ℕ → State V → ℕ → ℕ → Bool
recorded E x s z y = s.notebook.reads z y || (z == x && has (asked E x (values E s.notebook)) y)

-- The run of x has answered: its reads are recorded, x stops waiting, its value becomes the join, and if that rose, every unknown with a
-- recorded read of x waits, x itself if it reads itself.
abbrev pub settle : {V : Type 0} → System V → ℕ → State V → State V
settle E x s = record {
  notebook = record {
    value = update nat_eq s.notebook.value x (Some (joined E x s));
    entries = s.notebook.entries;
    reads = recorded E x s;
  };
  waiting = λ z. (rose E x s && (nat_lt z E.size && recorded E x s z x)) || (not (z == x) && s.waiting z);
}

-- One step: the run of the waiting entry entered last is begun from the start. Either it asks for an unknown without an entry, which is
-- then entered, or it answers.
pub data Step {V : Type 0} (E : System V) (s : State V) : State V → Type 0 where
  miss : {x y : ℕ} → latest s ≡ Some x → missing E s x ≡ Some y → Step E s (enter E y s)
  settles : {x : ℕ} → latest s ≡ Some x → missing E s x ≡ None → Step E s (settle E x s)

-- Any number of steps.
pub data Steps {V : Type 0} (E : System V) (s : State V) : State V → Type 0 where
  done : Steps E s s
  then : {t u : State V} → Steps E s t → Step E t u → Steps E s u

-- An ask for q begins with q entered, and waiting alone.
abbrev pub start : {V : Type 0} → System V → Notebook V → ℕ → State V
start E N q = enter E q (record { notebook = N; waiting = λ z. false })

-- A whole ask for an unknown q without an entry: it makes N' of the notebook N.
pub record Ask {V : Type 0} (E : System V) (N : Notebook V) (q : ℕ) (N' : Notebook V) : Type 0 where
  pub unknown : q < E.size
  pub unlisted : listed N.value q ≡ false
  pub waiting : ℕ → Bool
  pub steps : Steps E (start E N q) (record { notebook = N'; waiting = waiting })
  pub ended : latest (record { notebook = N'; waiting = waiting }) ≡ None
