-- The equations of reachability keep the rules.
use Rattle.std.specs.Prelude.{◌≡◌, ℕ, ◌*◌, ◌<◌, ◌≤◌, Bool, true, false, cond, ◌||◌, List, [], ◌∷◌, ◌++◌, length, is_some, Some, None, Ok, Option, ◌==◌, ◌≢◌, IfSome, nat_lt, slice_set, refl}
use Rattle.std.proofs.Common.{true≢false, arith}
use Rattle.std.proofs.lemmas.List.{get_or-set_other}
use Rattle.std.proofs.lemmas.Bool.{ltb-true, lt-ltb, eq-eqb, both_ways, false≢true}
use Rattle.lattice.specs.Kinds.{AtOrBelow}
use Rattle.equations.specs.Systems.{system}
use Rattle.equations.specs.Rules.{Lawful}
use Rattle.equations.specs.Edits.{Kept, Outcome}
use Rattle.equations.specs.Plans.{Plan, done, ask, step, play, planned, value, Within}
use Rattle.equations.proofs.Planned.{Each, planned_lawful, within_collect, short_collect, short_up, value_collect, joined_mono, play_step}
use Rattle.toys.specs.declared.flag.Flag.{Flag}
use Rattle.toys.specs.declared.graph.Edges.{Edges}
use Rattle.toys.specs.declared.graph.Graph.{Graph}
use Rattle.toys.specs.declared.graph.Walk.{Walk}
use Rattle.toys.specs.Flags.{either, flags}
use Rattle.toys.specs.Reach.{edge, leaving, both, reaching, successors, plan, rest, refusal, touched}
use Rattle.toys.specs.FlagLaws.{flags_laws}

abbrev part : ℕ → Plan Flag Flag
part s = ask s done

-- the nodes that two edges lead to: unknowns, and at most two
leads : (a : Option ℕ) → IfSome (edge a) (λ s. s < 8)
leads None = tt
leads (Some s) = go (nat_lt s 8) refl
  where
    go : (p : Bool) → nat_lt s 8 ≡ p → IfSome (cond p (Some s) None) (λ t. t < 8)
    go false e = tt
    go true e = ltb-true s 8 e

inside : (a b : Option ℕ) → IfSome a (λ s. s < 8) → IfSome b (λ s. s < 8) → Each (λ s. Within 8 (part s)) (both a b)
inside None None h k = tt
inside None (Some t) h k = ((k, λ v. tt), tt)
inside (Some s) None h k = ((h, λ v. tt), tt)
inside (Some s) (Some t) h k = ((h, λ v. tt), ((k, λ v. tt), tt))

at_most_two : (a b : Option ℕ) → length (both a b) * 1 ≤ 1024
at_most_two None None = omega arith
at_most_two None (Some t) = omega arith
at_most_two (Some s) None = omega arith
at_most_two (Some s) (Some t) = omega arith

monotone : (nodes : List ℕ) (start : Bool) (ρ σ : ℕ → Flag) → ((y : ℕ) → AtOrBelow flags (ρ y) (σ y)) → AtOrBelow flags (value (reaching nodes start) ρ) (value (reaching nodes start) σ)
monotone nodes start ρ σ h =
    rw (value_collect either part nodes (record { up = start }) ρ, value_collect either part nodes (record { up = start }) σ)
    (joined_mono flags flags_laws ρ σ h nodes (record { up = start }) (record { up = start }) (flags_laws.idempotent (record { up = start })))

pub lawful : (g : Graph) → Lawful (system flags (planned 8 (plan g)))
lawful g = planned_lawful flags 8 (plan g) flags_laws
    (λ x k. within_collect either part 8 (successors g x) (inside (edge (leaving g x).first) (edge (leaving g x).second) (leads (leaving g x).first) (leads (leaving g x).second)) _)
    (λ x k. short_up _ 1024 (plan g x) (at_most_two (edge (leaving g x).first) (edge (leaving g x).second)) (short_collect either part 1 (successors g x) (λ s v. tt) (record { up = (x == g.goal) })))
    (λ x k. monotone (successors g x) (x == g.goal))

-- a run that begins
pub begins : (g : Graph) (x : ℕ) (left : Edges) → left.first ≡ edge (leaving g x).first → left.second ≡ edge (leaving g x).second
    → plan g x ≡ rest (record { left = left; reached = (x == g.goal) })
begins g x left p q = rw (p, q)

-- a run that is given a value for its first node, for its second, and after its answer
module _ (g : Graph) (v : Flag) where
  pub given_first : (run : Walk) → is_some run.left.first ≡ true → (x : ℕ) (given : List Flag) → play (plan g x) given ≡ rest run
      → play (plan g x) (given ++ (v ∷ [])) ≡ rest (record { left = record { first = None; second = run.left.second }; reached = run.reached || v.up })
  given_first run h x given e = play_step (plan g x) (rest run) _ given v e (go run.left.first run.left.second h)
    where
      go : (a b : Option ℕ) → is_some a ≡ true → step (reaching (both a b) run.reached) v ≡ reaching (both None b) (run.reached || v.up)
      go None b h = absurd (false≢true h)
      go (Some s) None h = refl
      go (Some s) (Some t) h = refl

  pub given_second : (run : Walk) → is_some run.left.first ≡ false → is_some run.left.second ≡ true → (x : ℕ) (given : List Flag) → play (plan g x) given ≡ rest run
      → play (plan g x) (given ++ (v ∷ [])) ≡ rest (record { left = record { first = run.left.first; second = None }; reached = run.reached || v.up })
  given_second run h k x given e = play_step (plan g x) (rest run) _ given v e (go run.left.first run.left.second h k)
    where
      go : (a b : Option ℕ) → is_some a ≡ false → is_some b ≡ true → step (reaching (both a b) run.reached) v ≡ reaching (both a None) (run.reached || v.up)
      go (Some s) b h k = absurd (true≢false h)
      go None None h k = absurd (false≢true k)
      go None (Some t) h k = refl

  pub given_more : (run : Walk) → is_some run.left.first ≡ false → is_some run.left.second ≡ false → (x : ℕ) (given : List Flag) → play (plan g x) given ≡ rest run
      → play (plan g x) (given ++ (v ∷ [])) ≡ rest run
  given_more run h k x given e = play_step (plan g x) (rest run) (rest run) given v e (go run.left.first run.left.second h k)
    where
      go : (a b : Option ℕ) → is_some a ≡ false → is_some b ≡ false → step (reaching (both a b) run.reached) v ≡ reaching (both a b) run.reached
      go (Some s) b h k = absurd (true≢false h)
      go None (Some t) h k = absurd (true≢false k)
      go None None h k = refl

-- an edit of a node that is there
apart : (node x : ℕ) → node < 8 → touched node x ≡ false → x ≢ node
apart node x h t e = both_ways (x == node) (rw (lt-ltb node 8 h) at t) (eq-eqb x node e)

pub edited : (g : Graph) (node : ℕ) (edges : Edges) → node < 8
    → Kept (planned 8 (plan g)) (planned 8 (plan (record { edges = slice_set g.edges node edges; goal = g.goal }))) (touched node)
edited g node edges h = record {
  size = refl;
  untouched = λ x k t given. let d = apart node x h t in rw (get_or-set_other g.edges node x edges (record { first = None; second = None }) d);
}

pub accepted : (g : Graph) (node : ℕ) (edges : Edges) (same : Type 0) → node < 8
    → Outcome {U = Unit {0}} (planned 8 (plan g)) (planned 8 (plan (record { edges = slice_set g.edges node edges; goal = g.goal }))) same (touched node) (refusal node) (Ok tt)
accepted g node edges same h = rw (lt-ltb node 8 h) ((tt, refl), edited g node edges h)
