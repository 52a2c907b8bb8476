-- A turn of the taking out of the least root's tree.
use Rattle.std.proofs.Common.{◌≡◌, ℕ, ◌+◌, ◌-◌, ◌<◌, ◌≤◌, Bool, true, List, [], ◌∷◌, length, get_or, set, Some, None, Option, sym, refl, ap, ◌∙◌, subst, inl, inr, arith}
use Rattle.std.proofs.lemmas.Bool.Decides.{nat_tests}
use Rattle.elements.specs.declared.entries.Entry.{Entry}
use Rattle.elements.specs.Order.{Strict, precedes_by, stamp_of}
use Rattle.stores.specs.SortedLists.{merge, tally}
use Rattle.stores.proofs.Merging.{merge-nil, merge_assoc, tally-merge}
use Rattle.cells.specs.Trees.{Tree, leaf, node, size, uses}
use Rattle.cells.specs.Forms.{StoredAt}
use Rattle.cells.proofs.Trees.{node_at, leaf_at}
use Rattle.forests.specs.Forests.{Any, Over, listed, shaped}
use Rattle.forests.specs.Parts.{ForestAt, Parted, Rooted, Added}
use Rattle.forests.proofs.Listing.{list_lone, tally_first, tally_lone}
use Rattle.forests.proofs.Parting.{siblings_at, rooted, moved_first, beside}
use Rattle.forests.proofs.Adding.{apart_swapped, rooted_kept, prepended}
use Rattle.binomial.specs.Binomial.{trees, Children, Rising, Topped, RisingBehind, Least, TakenOut, cells_of, no_link, before_next}
use Rattle.binomial.specs.declared.links.Link.{Link}
use Rattle.binomial.proofs.Degrees.{low}
use Rattle.binomial.specs.Lawful.{laid}
use Rattle.binomial.proofs.Joining.{children_of}
use Rattle.binomial.proofs.Carrying.{lower}

-- a root is a cell of its forest
least_uses : {A : Type 0} (before : A → A → Bool) (r : ℕ) (x : A) (t : Tree A) → Least before r x t → 1 ≤ uses t r
least_uses before r x leaf l = absurd l
least_uses before r x (node i e c s) (inl l) = grind (arith, nat_tests, l.0)
least_uses before r x (node i e c s) (inr l) = omega (arith, least_uses before r x s l.0)

module _ {T : Type 0} (le : T → T → Bool) (law : Strict (precedes_by le) (stamp_of {T = T})) where
  module _ (ls : List Link) (es : List (Entry T)) (k a i : ℕ) (x e : Entry T) (c s : Tree (Entry T)) (p : ForestAt (cells_of le) (Rising k) ls es (Some a) (node a e c s)) (l : Least (precedes_by le) i x (node a e c s)) where
    -- the first root is the one
    first_least : a ≡ i → (x ≡ e) × Over (precedes_by le) x s
    first_least same = go l
      where
        go : Least (precedes_by le) i x (node a e c s) → (x ≡ e) × Over (precedes_by le) x s
        go (inl h) = (h.1, h.2)
        go (inr h) = absurd (grind (arith, nat_tests, p.cells i, same, least_uses (precedes_by le) i x s h.0))

    -- or it is among the others
    later_least : (a ≡ i → ⊥) → Least (precedes_by le) i x s × (precedes_by le x e ≡ true)
    later_least differ = go l
      where
        go : Least (precedes_by le) i x (node a e c s) → Least (precedes_by le) i x s × (precedes_by le x e ≡ true)
        go (inl h) = absurd (differ (sym h.0))
        go (inr h) = h

    first_moved : a ≡ i → Parted (cells_of le) (RisingBehind (precedes_by le) k x) (Topped x) ls es (merge (precedes_by le) (listed (precedes_by le) (node a e c s)) []) (λ n. uses (node a e c s) n + 0) (size (node a e c s) + 0) (set ls a (before_next (get_or ls a no_link) None)) (get_or ls a no_link).next (Some a)
    first_moved same =
        let h = first_least same in
        let v = p.stored_at.stored.valid.0 in
        moved_first (cells_of le) (laid le) law {Q = Any} (RisingBehind (precedes_by le) k x) (Topped x) ls es None a e c s leaf (record { one = p.stored_at; two = record { at = refl; stored = record { linked = tt; held = tt; valid = (tt, tt) } }; cells = λ n. omega (arith, p.cells n); stamps = λ n. omega (arith, p.stamps n); few = omega (arith, p.few) }) (lower s (omega (arith, v.0)) v.2, h.1) (refl, sym h.0, v.1)

    first_alone : a ≡ i → TakenOut le ls es k a x (node a e c s) (set ls a (before_next (get_or ls a no_link) None)) (get_or ls a no_link).next
    first_alone same =
        let m = first_moved same in
        record {
          first = m.first;
          second = m.second;
          apart = m.apart;
          lists = m.lists ∙ merge-nil (precedes_by le) (listed (precedes_by le) (node a e c s));
          cells = λ n. omega (arith, m.cells n);
          counts = omega (arith, m.counts);
          others = λ n z. m.others n (omega (arith, z));
        }

    first_out : a ≡ i → (last : List Link) → last ≡ set ls i (before_next (get_or ls i no_link) None) → TakenOut le ls es k i x (node a e c s) last (get_or ls a no_link).next
    first_out same last is = subst (λ z. TakenOut le ls es k i x (node a e c s) z (get_or ls a no_link).next) (sym is) (subst (λ n. TakenOut le ls es k n x (node a e c s) (set ls n (before_next (get_or ls n no_link) None)) (get_or ls a no_link).next) same (first_alone same))

    -- there is no root but this
    none_out : (get_or ls a no_link).next ≡ None → (a ≡ i → ⊥) → ⊥
    none_out none differ = subst (Least (precedes_by le) i x) (leaf_at s (sym none ∙ ap (λ (z : Link). z.next) p.stored_at.stored.linked.1)) (later_least differ).0

    -- the others, where the next root is in cell j
    module _ (j : ℕ) (next : (get_or ls a no_link).next ≡ Some j) (differ : a ≡ i → ⊥) where
      behind : ForestAt (cells_of le) (Rising (trees c + 1)) ls es (Some j) s
      behind = record {
        stored_at = subst (λ o. StoredAt (shaped (cells_of le) (Rising (trees c + 1))) ls es o s) next (siblings_at (cells_of le) (laid le) {Q = Rising (trees c + 1)} p.stored_at.stored.valid.0.2 p.stored_at);
        cells = λ n. omega (arith, p.cells n);
        stamps = λ n. omega (arith, p.stamps n, tally_first (precedes_by le) stamp_of a e c s n);
        few = omega (arith, p.few);
      }

      -- the degrees rise, and are at most 12
      rises : 12 - (get_or ls j no_link).degree < 12 - (get_or ls a no_link).degree
      rises =
          let n = node_at s j behind.stored_at.at in
          let q = subst (λ z. StoredAt (shaped (cells_of le) (Rising (trees c + 1))) ls es (Some j) z) n.is behind.stored_at in
          omega (arith, ap (λ (z : Link). z.degree) q.stored.linked.1, ap (λ (z : Link). z.degree) p.stored_at.stored.linked.1, q.stored.valid.0.0, low n.left q.stored.valid.0.1 (omega (arith, behind.few, ap size n.is)))

      module _ (ls₁ : List Link) (r : Option ℕ) (long : length ls₁ ≡ length ls) (m : TakenOut le ls es (trees c + 1) i x s ls₁ r) (last : List Link) (is : last ≡ set ls₁ a (before_next (get_or ls₁ a no_link) r)) where
        o : Rooted (cells_of le) ls₁ es a (node a e c leaf)
        o = rooted_kept (cells_of le) long (λ n z. m.others n (omega (arith, z, p.cells n))) (rooted (cells_of le) (laid le) p.stored_at)

        kids : Children (trees c) o.children
        kids = children_of le o (refl, (p.stored_at.stored.valid.0.1, refl))

        entry_is : o.entry ≡ e
        entry_is = let q = o.is in cc

        prepared : Added (cells_of le) (RisingBehind (precedes_by le) k x) ls₁ es (node a e c leaf) m.first last (Some a)
        prepared =
            let v = p.stored_at.stored.valid.0 in
            let w = m.apart.one.stored.valid.0 in
            prepended (cells_of le) (laid le) law (RisingBehind (precedes_by le) k x) ls₁ es a r (node a e c leaf) m.first o m.apart.one (λ n. omega (arith, p.cells n, m.cells n)) is ((omega (arith, kids.1, v.0), kids.0, subst (λ n. Rising (n + 1) m.first) (sym kids.1) w.0), (subst (λ z. precedes_by le x z ≡ true) (sym entry_is) (later_least differ).1, w.1))

        later_out : length last ≡ length ls₁ → TakenOut le ls es k i x (node a e c s) last (Some a)
        later_out same = record {
          first = prepared.tree;
          second = m.second;
          apart = apart_swapped (cells_of le) (beside (cells_of le) (laid le) law same m.apart.two (λ n. omega (arith, p.cells n, m.cells n)) (λ n. omega (arith, p.stamps n, tally_first (precedes_by le) stamp_of a e c s n, tally_lone (precedes_by le) stamp_of a e c n, ap (λ z. tally stamp_of z n) m.lists, tally-merge (precedes_by le) stamp_of (listed (precedes_by le) m.first) (listed (precedes_by le) m.second) n, tally-merge (precedes_by le) stamp_of (listed (precedes_by le) (node a e c leaf)) (listed (precedes_by le) m.first) n)) (omega (arith, p.few, m.counts)) prepared);
          lists =
              ap (λ z. merge (precedes_by le) z (listed (precedes_by le) m.second)) (prepared.lists ∙ ap (λ z. merge (precedes_by le) z (listed (precedes_by le) m.first)) (list_lone (precedes_by le) a e c))
              ∙ merge_assoc (precedes_by le) stamp_of law (e ∷ listed (precedes_by le) c) (listed (precedes_by le) m.first) (listed (precedes_by le) m.second)
              ∙ ap (merge (precedes_by le) (e ∷ listed (precedes_by le) c)) m.lists;
          cells = λ n. omega (arith, prepared.cells n, m.cells n);
          counts = omega (arith, prepared.counts, m.counts);
          others = λ n z. prepared.others n (omega (arith, z, m.cells n)) ∙ m.others n (omega (arith, z));
        }

  -- a turn at the root in cell a
  pub record Turn (ls : List Link) (es : List (Entry T)) (k a i : ℕ) (x : Entry T) (t : Tree (Entry T)) : Type 0 where
    pub first : a ≡ i → (last : List Link) → last ≡ set ls i (before_next (get_or ls i no_link) None) → TakenOut le ls es k i x t last (get_or ls a no_link).next
    pub none : (get_or ls a no_link).next ≡ None → (a ≡ i → ⊥) → ⊥
    pub degree : ℕ
    pub others : Tree (Entry T)
    pub forest : (j : ℕ) → (get_or ls a no_link).next ≡ Some j → (a ≡ i → ⊥) → ForestAt (cells_of le) (Rising degree) ls es (Some j) others
    pub least : (a ≡ i → ⊥) → Least (precedes_by le) i x others
    pub falls : (j : ℕ) → (get_or ls a no_link).next ≡ Some j → (a ≡ i → ⊥) → 12 - (get_or ls j no_link).degree < 12 - (get_or ls a no_link).degree
    pub ends : (j : ℕ) → (get_or ls a no_link).next ≡ Some j → (a ≡ i → ⊥) → (ls₁ : List Link) (r : Option ℕ) → length ls₁ ≡ length ls → TakenOut le ls es degree i x others ls₁ r → (last : List Link) → last ≡ set ls₁ a (before_next (get_or ls₁ a no_link) r) → length last ≡ length ls₁ → TakenOut le ls es k i x t last (Some a)

  pub turn : {ls : List Link} {es : List (Entry T)} {k a i : ℕ} {x : Entry T} (t : Tree (Entry T)) → ForestAt (cells_of le) (Rising k) ls es (Some a) t → Least (precedes_by le) i x t → Turn ls es k a i x t
  turn {ls} {es} {k} {a} {i} {x} t p l =
      let n = node_at t a p.stored_at.at in
      let q = subst (λ z. ForestAt (cells_of le) (Rising k) ls es (Some a) z) n.is p in
      let m = subst (λ z. Least (precedes_by le) i x z) n.is l in
      subst (λ z. Turn ls es k a i x z) (sym n.is) (record {
        first = first_out ls es k a i x n.entry n.left n.right q m;
        none = none_out ls es k a i x n.entry n.left n.right q m;
        degree = trees n.left + 1;
        others = n.right;
        forest = behind ls es k a i x n.entry n.left n.right q m;
        least = λ differ. (later_least ls es k a i x n.entry n.left n.right q m differ).0;
        falls = rises ls es k a i x n.entry n.left n.right q m;
        ends = later_out ls es k a i x n.entry n.left n.right q m;
      })
