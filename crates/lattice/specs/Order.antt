-- The order of a value kind.
use Rattle.std.specs.Prelude.{◌≡◌, ℕ, ◌<◌, ◌≤◌, true, false, ◌⊎◌, ◌≢◌, nat_lt}
use Rattle.std.proofs.Common.{sym, ◌∙◌, ap, inl, inr, ⊎_elim, arith}
use Rattle.std.proofs.lemmas.Bool.{cases_Bool, ltb-false, ltb-true}
use Rattle.lattice.specs.Kinds.{Kind, Laws, AtOrBelow, height_limit}

-- ranks up to 64 are within the limit, however high it is raised
pub within_limit : (r : ℕ) → r ≤ 64 → r ≤ height_limit
unfolding height_limit
within_limit r h = omega arith

-- the law on ranks, from its usual form and a test of equality
pub rises_from : {V : Type 0} (kind : Kind V) → ((v w : V) → (v ≡ w) ⊎ (v ≢ w))
    → ((v w : V) → AtOrBelow kind v w → (v ≢ w) → kind.rank v < kind.rank w) → (v w : V) → AtOrBelow kind v w → (v ≡ w) ⊎ (kind.rank v < kind.rank w)
rises_from kind same above v w e = ⊎_elim inl (λ d. inr (above v w e d)) (same v w)

module _ {V : Type 0} {kind : Kind V} (laws : Laws kind) where
  pub below_trans : (u v w : V) → AtOrBelow kind u v → AtOrBelow kind v w → AtOrBelow kind u w
  below_trans u v w p q = ap (kind.join u) (sym q) ∙ sym (laws.associative u v w) ∙ ap (λ z. kind.join z w) p ∙ q

  pub below_antisym : (v w : V) → AtOrBelow kind v w → AtOrBelow kind w v → v ≡ w
  below_antisym v w p q = sym q ∙ laws.commutative w v ∙ p

  -- a join is the least value above both
  pub join_left : (v w : V) → AtOrBelow kind v (kind.join v w)
  join_left v w = sym (laws.associative v v w) ∙ ap (λ z. kind.join z w) (laws.idempotent v)

  pub join_right : (v w : V) → AtOrBelow kind w (kind.join v w)
  join_right v w = ap (kind.join w) (laws.commutative v w) ∙ join_left w v ∙ laws.commutative w v

  pub join_least : (u v w : V) → AtOrBelow kind u w → AtOrBelow kind v w → AtOrBelow kind (kind.join u v) w
  join_least u v w p q = laws.associative u v w ∙ ap (kind.join u) q ∙ p

  -- a join is monotone in both
  pub join_mono : (a b c d : V) → AtOrBelow kind a c → AtOrBelow kind b d → AtOrBelow kind (kind.join a b) (kind.join c d)
  join_mono a b c d p q = join_least a b (kind.join c d) (below_trans a c _ p (join_left c d)) (below_trans b d _ q (join_right c d))

  -- a join that does not rise in rank is the same value
  pub same_rank : (v w : V) → nat_lt (kind.rank v) (kind.rank (kind.join v w)) ≡ false → kind.join v w ≡ v
  same_rank v w h = go (laws.rises v (kind.join v w) (join_left v w))
    where
      go : (v ≡ kind.join v w) ⊎ (kind.rank v < kind.rank (kind.join v w)) → kind.join v w ≡ v
      go (inl e) = sym e
      go (inr r) = absurd (omega (arith, ltb-false _ _ h))

  -- a join that rises in rank is another value
  pub other_rank : (v w : V) → nat_lt (kind.rank v) (kind.rank (kind.join v w)) ≡ true → kind.join v w ≢ v
  other_rank v w h e = let l : kind.rank v < kind.rank v = rw e at (ltb-true _ _ h) in omega arith

  pub rank_rises : (v w : V) → (kind.join v w ≢ v) → nat_lt (kind.rank v) (kind.rank (kind.join v w)) ≡ true
  rank_rises v w h = ⊎_elim (λ e. e) (λ e. absurd (h (same_rank v w e))) (cases_Bool (nat_lt (kind.rank v) (kind.rank (kind.join v w))))
