-- Two heaps that can be melded: in either order, where one is empty, and which root comes first.
use Rattle.std.specs.Option.{option_or}
use Rattle.std.proofs.Common.{◌≡◌, ◌⊎◌, inl, inr, ℕ, true, false, List, get_or, Some, None, Option, sym, refl, ap, ◌∙◌, subst, arith, Bool}
use Rattle.elements.specs.declared.entries.Entry.{Entry}
use Rattle.elements.specs.Order.{Strict, precedes_by, stamp_of}
use Rattle.stores.specs.SortedLists.{merge, tally}
use Rattle.stores.proofs.Merging.{merge_comm}
use Rattle.cells.specs.Trees.{Tree, leaf, node}
use Rattle.cells.specs.Forms.{Form, StoredAt, Meldable, Melded}
use Rattle.cells.specs.Lawful.{Lawful}
use Rattle.cells.proofs.Trees.{node_at, leaf_at, read_same}

module _ {T K : Type 0} {le : T → T → Bool} (F : Form le K) {ls : List K} {es : List (Entry T)} where
  pub swapped : {a b : Option ℕ} {s t : Tree (Entry T)} → Meldable F ls es a b s t → Meldable F ls es b a t s
  swapped p = record { one = p.two; two = p.one; cells = λ k. omega (arith, p.cells k); stamps = λ k. omega (arith, p.stamps k); few = omega (arith, p.few) }

  -- the same where the roots are known by other names
  pub named : {a b c d : Option ℕ} {s t : Tree (Entry T)} → a ≡ c → b ≡ d → Meldable F ls es a b s t → Meldable F ls es c d s t
  named {b = b} {c = c} {s = s} {t = t} e f p = subst (λ o. Meldable F ls es c o s t) f (subst (λ o. Meldable F ls es o b s t) e p)

  -- the entry that is read at the root's cell is the root's
  pub root_entry : {i : ℕ} {t : Tree (Entry T)} → StoredAt F ls es (Some i) t → (x : Entry T) → x ≡ get_or es i x → (l : Tree (Entry T)) × (r : Tree (Entry T)) × (t ≡ node i x l r)
  root_entry {i} {t} p x read =
      let n = node_at t i p.at in
      let k = (subst (λ u. StoredAt F ls es (Some i) u) n.is p).stored.held in
      (n.left, n.right, n.is ∙ ap (λ y. node i y n.left n.right) (sym (read_same es i x n.entry k.0 read k.1)))

  module _ (lawful : Lawful F) (law : Strict (precedes_by le) (stamp_of {T = T})) where
    -- a meld in the other order comes to the same
    pub unswapped : {ls' : List K} {a b r : Option ℕ} {s t : Tree (Entry T)} → Meldable F ls es a b s t → Melded F ls es t s ls' r → Melded F ls es s t ls' r
    unswapped {s = s} {t = t} p m = record {
      tree = m.tree;
      stored_at = m.stored_at;
      lists = m.lists ∙ merge_comm (precedes_by le) stamp_of law (F.list t) (F.list s) (λ k. omega (arith, p.stamps k));
      cells = λ k. omega (arith, m.cells k);
      counts = omega (arith, m.counts);
      others = λ k h. m.others k (omega arith);
    }

    leaf_left : {a b : Option ℕ} {t : Tree (Entry T)} → Meldable F ls es a b leaf t → Melded F ls es leaf t ls b
    leaf_left {t = t} p = record { tree = t; stored_at = p.two; lists = ap (λ l. merge (precedes_by le) l (F.list t)) (sym lawful.list_leaf); cells = λ k. omega arith; counts = omega arith; others = λ k z. refl }

    pub none_left : {a b : Option ℕ} (s t : Tree (Entry T)) → a ≡ None → Meldable F ls es a b s t → Melded F ls es s t ls b
    none_left {a} {b} s t e p = let is = leaf_at s (sym e ∙ p.one.at) in subst (λ u. Melded F ls es u t ls b) (sym is) (leaf_left (subst (λ u. Meldable F ls es a b u t) is p))

    pub none_right : {a b c : Option ℕ} (s t : Tree (Entry T)) → b ≡ None → a ≡ c → Meldable F ls es a b s t → Melded F ls es s t ls c
    none_right s t e f p = subst (λ o. Melded F ls es s t ls o) f (unswapped p (none_left t s e (swapped p)))

    -- where one is empty, the other is all
    pub one_empty : {a b r : Option ℕ} (s t : Tree (Entry T)) → (a ≡ None) ⊎ (b ≡ None) → r ≡ option_or a b → Meldable F ls es a b s t → Melded F ls es s t ls r
    one_empty {a = a} {b = b} s t (inl e) is p = none_left s t e (named refl (sym (is ∙ ap (λ o. option_or o b) e)) p)
    one_empty {a = None} {b = b} s t (inr e) is p = none_left s t refl (named refl (sym is) p)
    one_empty {a = Some i} {b = b} s t (inr e) is p = none_right s t e (sym is) p

    -- of two roots that are not in order, the second comes first
    pub second_first : {i j : ℕ} {s t : Tree (Entry T)} → Meldable F ls es (Some i) (Some j) s t → (x y : Entry T) → x ≡ get_or es i x → y ≡ get_or es j y → precedes_by le x y ≡ false → precedes_by le y x ≡ true
    second_first {i} {j} p x y hx hy h =
        let u = root_entry p.one x hx in
        let v = root_entry p.two y hy in
        law.total x y (λ same. omega (arith, p.stamps y.stamp, ap (λ w. tally stamp_of (F.list w) y.stamp) u.2, ap (λ w. tally stamp_of (F.list w) y.stamp) v.2, ap (λ n. tally stamp_of (F.list (node i x u.0 u.1)) n) same, lawful.list_root i x u.0 u.1, lawful.list_root j y v.0 v.1)) h
