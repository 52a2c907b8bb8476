-- The root that precedes the others: where it is held, and a turn of the search for it.
use Rattle.std.proofs.Common.{◌≡◌, ℕ, ◌+◌, ◌<◌, ◌≤◌, Bool, true, false, List, ◌∷◌, length, get_or, Some, None, sym, refl, ap, ◌∙◌, subst, inl, inr, arith}
use Rattle.std.proofs.lemmas.Bool.Decides.{nat_tests}
use Rattle.elements.specs.declared.entries.Entry.{Entry}
use Rattle.elements.specs.Order.{Strict, precedes_by, stamp_of}
use Rattle.stores.specs.SortedLists.{tally}
use Rattle.cells.specs.Trees.{Tree, leaf, node, Held}
use Rattle.cells.proofs.Trees.{node_at, leaf_at, read_same}
use Rattle.cells.specs.Forms.{StoredAt}
use Rattle.forests.specs.Forests.{Any, Over, listed, shaped}
use Rattle.forests.specs.Parts.{ForestAt}
use Rattle.forests.proofs.Listing.{tally_first}
use Rattle.forests.proofs.Parting.{extent, extent_is, siblings_at}
use Rattle.binomial.specs.Binomial.{Least, cells_of, no_link}
use Rattle.binomial.specs.declared.links.Link.{Link}
use Rattle.binomial.specs.Lawful.{laid}

module _ {T : Type 0} (le : T → T → Bool) (law : Strict (precedes_by le) (stamp_of {T = T})) where
  over_trans : (e x : Entry T) (t : Tree (Entry T)) → precedes_by le e x ≡ true → Over (precedes_by le) x t → Over (precedes_by le) e t
  over_trans e x leaf h o = tt
  over_trans e x (node i f c s) h o = (law.transitive e x f h o.0, over_trans e x s h o.1)

  over_least : (e x : Entry T) (r : ℕ) (t : Tree (Entry T)) → precedes_by le e x ≡ true → Least (precedes_by le) r x t → Over (precedes_by le) e t
  over_least e x r leaf h l = tt
  over_least e x r (node i f c s) h (inl l) = (subst (λ z. precedes_by le e z ≡ true) l.1 h, over_trans e x s h l.2)
  over_least e x r (node i f c s) h (inr l) = (law.transitive e x f h l.1, over_least e x r s h l.0)

  pub least_held : (es : List (Entry T)) (x : Entry T) (r : ℕ) (t : Tree (Entry T)) → Held es t → Least (precedes_by le) r x t → (r < length es) × (x ≡ get_or es r x)
  least_held es x r leaf h l = absurd l
  least_held es x r (node i f c s) h (inl l) = (omega (arith, h.0, l.0), l.1 ∙ h.1 ∙ ap (λ z. get_or es i z) (sym l.1) ∙ ap (λ n. get_or es n x) (sym l.0))
  least_held es x r (node i f c s) h (inr l) = least_held es x r s h.3 l.0

  least_tally : (x : Entry T) (r : ℕ) (t : Tree (Entry T)) → Least (precedes_by le) r x t → 1 ≤ tally stamp_of (listed (precedes_by le) t) x.stamp
  least_tally x r leaf l = absurd l
  least_tally x r (node i f c s) (inl l) = grind (arith, nat_tests, ap stamp_of l.1, tally_first (precedes_by le) stamp_of i f c s x.stamp)
  least_tally x r (node i f c s) (inr l) = omega (arith, least_tally x r s l.0, tally_first (precedes_by le) stamp_of i f c s x.stamp)

  -- a turn at a root with siblings
  pub record Look (ls : List Link) (es : List (Entry T)) (i j : ℕ) (t : Tree (Entry T)) : Type 0 where
    pub others : Tree (Entry T)
    pub forest : ForestAt (cells_of le) Any ls es (Some j) others
    pub falls : extent (cells_of le) ls es (Some j) < extent (cells_of le) ls es (Some i)
    pub inside : (r : ℕ) (x : Entry T) → Least (precedes_by le) r x others → r < length es
    pub here : (r : ℕ) (x y z : Entry T) → Least (precedes_by le) r x others → y ≡ get_or es i y → z ≡ get_or es r z → precedes_by le y z ≡ true → (w : Entry T) × Least (precedes_by le) i w t
    pub there : (r : ℕ) (x y z : Entry T) → Least (precedes_by le) r x others → y ≡ get_or es i y → z ≡ get_or es r z → precedes_by le y z ≡ false → (w : Entry T) × Least (precedes_by le) r w t

  module _ (ls : List Link) (es : List (Entry T)) (i j : ℕ) (e : Entry T) (c s : Tree (Entry T)) (at : (get_or ls i no_link).next ≡ Some j) (p : ForestAt (cells_of le) Any ls es (Some i) (node i e c s)) where
    sum : (k : ℕ) → tally stamp_of (listed (precedes_by le) (node i e c s)) k ≡ tally stamp_of (e ∷ listed (precedes_by le) c) k + tally stamp_of (listed (precedes_by le) s) k
    sum k = tally_first (precedes_by le) stamp_of i e c s k

    own : (a b : Entry T) → a.stamp ≡ b.stamp → 1 ≤ tally stamp_of (a ∷ listed (precedes_by le) c) b.stamp
    own a b q = grind (arith, nat_tests, q)

    same_y : (y : Entry T) → y ≡ get_or es i y → y ≡ e
    same_y y hy = read_same es i y e p.stored_at.stored.held.0 hy p.stored_at.stored.held.1

    same_z : (r : ℕ) (x z : Entry T) → Least (precedes_by le) r x s → z ≡ get_or es r z → z ≡ x
    same_z r x z l hz = let k = least_held es x r s p.stored_at.stored.held.3 l in read_same es r z x k.0 hz k.1

    behind : ForestAt (cells_of le) Any ls es (Some j) s
    behind = record {
      stored_at = subst (λ o. StoredAt (shaped (cells_of le) Any) ls es o s) at (siblings_at (cells_of le) (laid le) {Q = Any} tt p.stored_at);
      cells = λ k. omega (arith, p.cells k);
      stamps = λ k. omega (arith, p.stamps k, sum k);
      few = omega (arith, p.few);
    }

    look_at : Look ls es i j (node i e c s)
    look_at = record {
      others = s;
      forest = behind;
      falls = omega (arith, extent_is (cells_of le) (laid le) p.few p.stored_at, extent_is (cells_of le) (laid le) behind.few behind.stored_at);
      inside = λ r x l. (least_held es x r s p.stored_at.stored.held.3 l).0;
      here = λ r x y z l hy hz b. (e, inl (refl, refl, over_least e x r s (subst (λ q. precedes_by le q x ≡ true) (same_y y hy) (subst (λ q. precedes_by le y q ≡ true) (same_z r x z l hz) b)) l));
      there = λ r x y z l hy hz b. (x, inr (l, law.total e x (λ q. omega (arith, p.stamps x.stamp, sum x.stamp, least_tally x r s l, own e x q)) (subst (λ q. precedes_by le q x ≡ false) (same_y y hy) (subst (λ q. precedes_by le y q ≡ false) (same_z r x z l hz) b))));
    }

  pub look : {ls : List Link} {es : List (Entry T)} {i j : ℕ} (t : Tree (Entry T)) → (get_or ls i no_link).next ≡ Some j → ForestAt (cells_of le) Any ls es (Some i) t → Look ls es i j t
  look {ls} {es} {i} {j} t at p = let x = node_at t i p.stored_at.at in subst (λ z. Look ls es i j z) (sym x.is) (look_at ls es i j x.entry x.left x.right at (subst (λ z. ForestAt (cells_of le) Any ls es (Some i) z) x.is p))

  -- a root with no siblings
  pub look_none : {ls : List Link} {es : List (Entry T)} {i : ℕ} (t : Tree (Entry T)) → (get_or ls i no_link).next ≡ None → ForestAt (cells_of le) Any ls es (Some i) t → (w : Entry T) × Least (precedes_by le) i w t
  look_none {ls} {es} {i} t at p =
      let x = node_at t i p.stored_at.at in
      let q = subst (λ z. ForestAt (cells_of le) Any ls es (Some i) z) x.is p in
      let none = leaf_at x.right (sym at ∙ ap (λ (y : Link). y.next) q.stored_at.stored.linked.1) in
      (x.entry, subst (λ z. Least (precedes_by le) i x.entry z) (sym x.is) (inl (refl, refl, subst (λ z. Over (precedes_by le) x.entry z) (sym none) tt)))
