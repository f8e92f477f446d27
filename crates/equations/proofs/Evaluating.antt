-- A run in the course of its asks.
use Rattle.std.proofs.Common.{◌≡◌, ℕ, ◌+◌, ◌<◌, List, [], ◌∷◌, ◌++◌, map, length, Some, refl, arith, length-append}
use Rattle.std.proofs.lemmas.List.{map_push}
use Rattle.equations.specs.declared.Move.TheVariants.{Ask, Answer}
use Rattle.equations.specs.Systems.{System}
use Rattle.equations.specs.Rules.{Lawful}
use Rattle.equations.specs.Evaluation.{on_list, evaluated}
use Rattle.equations.proofs.Bridge.{SoFar, so_far_none, so_far_push, so_far_fits, so_far_answer}
use Rattle.std.proofs.lemmas.Bool.{lt-ltb}

-- the run of an unknown has made n asks, and stands after their values
pub record Going {V : Type 0} (E : System V) (values : List V) (Stands : ℕ → List V → Type 0) (x n : ℕ) : Type 0 where
  pub known : x < E.size
  pub asks : List ℕ
  pub count : length asks ≡ n
  pub so_far : SoFar E x (on_list E values) asks
  pub stands : Stands x (map (on_list E values) asks)

module _ {V : Type 0} {E : System V} {values : List V} {x : ℕ} {Stands : ℕ → List V → Type 0} where
  pub going_none : x < E.size → Stands x [] → Going E values Stands x 0
  going_none known s = record { known = known; asks = []; count = refl; so_far = so_far_none E x (on_list E values); stands = s }

  module _ {n : ℕ} (going : Going E values Stands x n) where
    pub going_answers : (v : V) → E.moves x (map (on_list E values) going.asks) ≡ Answer v → Some (v, n) ≡ evaluated E values x
    going_answers v e =
        let (a, b) = so_far_answer E x (on_list E values) going.asks v going.so_far e in
        rw (lt-ltb x E.size going.known, a, b, going.count)

    module _ (law : Lawful E) (y : ℕ) (e : E.moves x (map (on_list E values) going.asks) ≡ Ask y) where
      pub going_fits : n < 1024
      going_fits = omega (arith, so_far_fits E x (on_list E values) law going.known going.asks y going.so_far e, going.count)

      pub going_more : (Stands' : ℕ → List V → Type 0) (v : V) → v ≡ on_list E values y
          → Stands' x (map (on_list E values) going.asks ++ (v ∷ [])) → Going E values Stands' x (n + 1)
      going_more Stands' v given s = record {
        known = going.known;
        asks = going.asks ++ (y ∷ []);
        count = simp length-append (omega (arith, going.count));
        so_far = so_far_push E x (on_list E values) law going.known going.asks y going.so_far e;
        stands = rw map_push (rw given at s);
      }
