-- Two trees become one: the root that is preceded becomes the other's first child.
use Rattle.std.proofs.Common.{◌≡◌, inl, inr, ℕ, ◌+◌, ◌<◌, ◌≤◌, true, false, cond, eqb, List, length, get_or, set, Some, Option, sym, refl, ap, ◌∙◌, subst, arith, length-set, Bool}
use Rattle.std.proofs.lemmas.List.{get_or-set_same, get_or-set_other}
use Rattle.std.proofs.lemmas.Bool.Decides.{nat_tests}
use Rattle.elements.specs.declared.entries.Entry.{Entry}
use Rattle.elements.specs.Order.{Strict, precedes_by, stamp_of}
use Rattle.stores.specs.SortedLists.{merge, tally}
use Rattle.stores.proofs.Merging.{merge_comm}
use Rattle.cells.specs.Trees.{Tree, leaf, node, root, uses, Held, Linked}
use Rattle.cells.specs.Forms.{StoredAt}
use Rattle.cells.proofs.Trees.{set_framed, read_same}
use Rattle.forests.specs.Forests.{Layout, HeapOrdered, Any, Before, listed, shaped}
use Rattle.forests.specs.Parts.{Rooted, Joinable, Joined, Joins, over, adopted}
use Rattle.forests.proofs.Parting.{built_shaped}
use Rattle.forests.specs.Layouts.{Consistent}
use Rattle.forests.proofs.Listing.{list_joined, tally_lone}

module _ {T K : Type 0} {le : T → T → Bool} (L : Layout le K) where
  pub join_swapped : {ls : List K} {es : List (Entry T)} {i j : ℕ} {next : Option ℕ} {s t v : Tree (Entry T)} → Joinable L ls es i j next s t v → Joinable L ls es j i next t s v
  join_swapped q = record { one = q.two; two = q.one; behind = q.behind; cells = λ k. omega (arith, q.cells k); stamps = λ k. omega (arith, q.stamps k); few = omega (arith, q.few) }

  module _ (laid : Consistent L) (law : Strict (precedes_by le) (stamp_of {T = T})) where
    pub join_unswapped : {R : Tree (Entry T) → Type 0} {ls ls' : List K} {es : List (Entry T)} {i j : ℕ} {next r : Option ℕ} {s t v : Tree (Entry T)} → Joinable L ls es i j next s t v → Joined L R ls es t s v ls' r → Joined L R ls es s t v ls' r
    join_unswapped {s = s} {t = t} {v = v} q m = record {
      tree = m.tree;
      stored_at = m.stored_at;
      lists = m.lists ∙ ap (λ x. merge (precedes_by le) x (listed (precedes_by le) v)) (merge_comm (precedes_by le) stamp_of law (listed (precedes_by le) t) (listed (precedes_by le) s) (λ k. omega (arith, q.stamps k)));
      cells = λ k. omega (arith, m.cells k);
      counts = omega (arith, m.counts);
      others = λ k z. m.others k (omega (arith, z));
    }

    -- the entry at the root's cell is the root's
    entry_is : {ls : List K} {es : List (Entry T)} {i : ℕ} {t : Tree (Entry T)} (o : Rooted L ls es i t) (x : Entry T) → x ≡ get_or es i x → x ≡ o.entry
    entry_is {es = es} {i = i} o x read = let h = subst (Held es) o.is o.held in read_same es i x o.entry h.0 read h.1

    root_tally : {ls : List K} {es : List (Entry T)} {i : ℕ} {t : Tree (Entry T)} (o : Rooted L ls es i t) → 1 ≤ tally stamp_of (listed (precedes_by le) t) o.entry.stamp
    root_tally {i = i} o = grind (arith, nat_tests, ap (λ z. tally stamp_of (listed (precedes_by le) z) o.entry.stamp) o.is, tally_lone (precedes_by le) stamp_of i o.entry o.children o.entry.stamp)

    -- of two roots that are not in order, the second comes first
    pub join_other : {ls : List K} {es : List (Entry T)} {i j : ℕ} {next : Option ℕ} {s t v : Tree (Entry T)} → Joinable L ls es i j next s t v → (x y : Entry T) → x ≡ get_or es i x → y ≡ get_or es j y → precedes_by le x y ≡ false → precedes_by le y x ≡ true
    join_other {s = s} q x y hx hy h =
        let ex = entry_is q.one x hx in
        let ey = entry_is q.two y hy in
        law.total x y (λ same. omega (arith, q.stamps q.two.entry.stamp, root_tally q.one, root_tally q.two, ap (λ k. tally stamp_of (listed (precedes_by le) s) k) (ap stamp_of (sym ex) ∙ same ∙ ap stamp_of ey))) h

    -- the tree at j becomes the first child of i
    module _ (R : Tree (Entry T) → Type 0) (ls : List K) (es : List (Entry T)) (i j : ℕ) (next : Option ℕ) (e f : Entry T) (c d v a b : Tree (Entry T)) (in-i : i < length ls) (in-j : j < length ls) (at_i : get_or ls i L.none ≡ L.link c a) (at_j : get_or ls j L.none ≡ L.link d b) (cells : (k : ℕ) → uses (node i e c leaf) k + uses (node j f d leaf) k + uses v k ≤ 1) where
      abbrev kid : K
      kid = L.with_next (get_or ls j L.none) (L.child (get_or ls i L.none))

      abbrev parent : K
      parent = L.with_next (L.with_child (get_or ls i L.none) (Some j)) next

      long : length (adopted L ls i j next) ≡ length ls
      long = length-set (set ls j kid) i parent ∙ length-set ls j kid

      apart : i ≡ j → ⊥
      apart z = grind (arith, nat_tests, cells i, z)

      keep : (t : Tree (Entry T)) → ((k : ℕ) → uses t k + cond (eqb i k) 1 0 + cond (eqb j k) 1 0 ≤ 1) → Linked L.link L.none ls t → Linked L.link L.none (adopted L ls i j next) t
      keep t few h = set_framed L.link L.none (set ls j kid) t i parent (grind (arith, nat_tests, few i)) (set_framed L.link L.none ls t j kid (grind (arith, nat_tests, few j)) h)

      at_parent : next ≡ root v → get_or (adopted L ls i j next) i L.none ≡ L.link (node j f d c) v
      at_parent next_is =
          get_or-set_same (set ls j kid) i parent L.none (omega (arith, length-set ls j kid, in-i))
          ∙ ap (λ x. L.with_next (L.with_child x (Some j)) next) at_i
          ∙ ap (λ x. L.with_next x next) (laid.with_child_is j f d c a)
          ∙ ap (L.with_next (L.link (node j f d c) a)) next_is
          ∙ laid.with_next_is (node j f d c) a v

      at_kid : get_or (adopted L ls i j next) j L.none ≡ L.link d c
      at_kid =
          get_or-set_other (set ls j kid) i j parent L.none (λ z. apart (sym z))
          ∙ get_or-set_same ls j kid L.none in-j
          ∙ ap (λ x. L.with_next x (L.child (get_or ls i L.none))) at_j
          ∙ ap (L.with_next (L.link d b)) (ap L.child at_i ∙ laid.child_is c a)
          ∙ laid.with_next_is d b c

      joined_at : Linked L.link L.none ls c → Linked L.link L.none ls d → Held es (node i e c leaf) → Held es (node j f d leaf) → HeapOrdered (precedes_by le) (node i e c leaf) → HeapOrdered (precedes_by le) (node j f d leaf) → StoredAt (shaped L Any) ls es next v → ((k : ℕ) → tally stamp_of (listed (precedes_by le) (node i e c leaf)) k + tally stamp_of (listed (precedes_by le) (node j f d leaf)) k ≤ 1) → precedes_by le e f ≡ true → R (node i e (node j f d c) v) → Joined L R ls es (node i e c leaf) (node j f d leaf) v (adopted L ls i j next) (Some i)
      joined_at below-i below-j held-i held-j order-i order-j behind stamps first shape = record {
        tree = node i e (node j f d c) v;
        stored_at = record {
          at = refl;
          stored = record {
            linked = (
              omega (arith, long, in-i),
              at_parent behind.at,
              (omega (arith, long, in-j), at_kid, keep d (λ k. omega (arith, cells k)) below-j, keep c (λ k. omega (arith, cells k)) below-i),
              keep v (λ k. omega (arith, cells k)) behind.stored.linked,
            );
            held = (held-i.0, held-i.1, (held-j.0, held-j.1, held-j.2, held-i.2), behind.stored.held);
            valid = (shape, ((first, order-i.0), (order-j.0, order-j.1, order-i.1), behind.stored.valid.1));
          };
        };
        lists = list_joined (precedes_by le) stamp_of law i j e f c d v stamps first;
        cells = λ k. omega arith;
        counts = omega arith;
        others = λ k z. get_or-set_other (set ls j kid) i k parent L.none (grind (arith, nat_tests, z)) ∙ get_or-set_other ls j k kid L.none (grind (arith, nat_tests, z));
      }

    -- where the entry at i precedes the one at j
    pub joined : {R : Tree (Entry T) → Type 0} {ls last : List K} {es : List (Entry T)} {i j : ℕ} {next : Option ℕ} {s t v : Tree (Entry T)} → (q : Joinable L ls es i j next s t v) → (x y : Entry T) → x ≡ get_or es i x → y ≡ get_or es j y → precedes_by le x y ≡ true → last ≡ adopted L ls i j next → R (node i q.one.entry (node j q.two.entry q.two.children q.one.children) v) → Joined L R ls es s t v last (Some i)
    joined {R} {ls} {last} {es} {i} {j} {next} {s} {t} {v} q x y hx hy h is shape =
        let o = q.one in
        let w = q.two in
        let one : Tree (Entry T) = node i o.entry o.children leaf in
        let two : Tree (Entry T) = node j w.entry w.children leaf in
        let first = subst (λ z. precedes_by le o.entry z ≡ true) (entry_is w y hy) (subst (λ z. precedes_by le z y ≡ true) (entry_is o x hx) h) in
        let at = joined_at R ls es i j next o.entry w.entry o.children w.children v o.siblings w.siblings o.within w.within o.linked w.linked (λ k. omega (arith, q.cells k, ap (λ z. uses z k) o.is, ap (λ z. uses z k) w.is)) o.below w.below (subst (Held es) o.is o.held) (subst (Held es) w.is w.held) (subst (HeapOrdered (precedes_by le)) o.is o.ordered) (subst (HeapOrdered (precedes_by le)) w.is w.ordered) q.behind (λ k. omega (arith, q.stamps k, ap (λ z. tally stamp_of (listed (precedes_by le) z) k) o.is, ap (λ z. tally stamp_of (listed (precedes_by le) z) k) w.is)) first shape in
        subst (λ z. Joined L R ls es s t v z (Some i)) (sym is) (subst (λ z. Joined L R ls es z t v (adopted L ls i j next) (Some i)) (sym o.is) (subst (λ z. Joined L R ls es one z v (adopted L ls i j next) (Some i)) (sym w.is) at))

    -- the same, where R is that it is one of the two over the other
    pub joined_first : {ls last : List K} {es : List (Entry T)} {i j : ℕ} {next : Option ℕ} {s t v : Tree (Entry T)} → (q : Joinable L ls es i j next s t v) → (x y : Entry T) → x ≡ get_or es i x → y ≡ get_or es j y → precedes_by le x y ≡ true → last ≡ adopted L ls i j next → Joined L (Joins s t v) ls es s t v last (Some i)
    joined_first {v = v} q x y hx hy h is = joined q x y hx hy h is (inl (sym (λ d. over (q.one.is d) (q.two.is d) v)))

    pub joined_second : {ls last : List K} {es : List (Entry T)} {i j : ℕ} {next : Option ℕ} {s t v : Tree (Entry T)} → (q : Joinable L ls es i j next s t v) → (x y : Entry T) → x ≡ get_or es i x → y ≡ get_or es j y → precedes_by le x y ≡ false → last ≡ adopted L ls j i next → Joined L (Joins s t v) ls es s t v last (Some j)
    unfolding join_swapped
    joined_second {v = v} q x y hx hy h is = join_unswapped q (joined (join_swapped q) y x hy hx (join_other q x y hx hy h) is (inr (sym (λ d. over (q.two.is d) (q.one.is d) v))))

  -- a shape that either of the two has over the other
  pub joined_shape : {R : Tree (Entry T) → Type 0} {ls ls' : List K} {es : List (Entry T)} {r : Option ℕ} (s t v : Tree (Entry T)) → R (over s t v) → R (over t s v) → Joined L (Joins s t v) ls es s t v ls' r → Joined L R ls es s t v ls' r
  joined_shape {R} s t v one two m = built_shaped L (λ u h. elim h [ inl e ↦ subst R (sym e) one | inr e ↦ subst R (sym e) two ]) m

  over_before : {ls : List K} {es : List (Entry T)} {i j : ℕ} {next : Option ℕ} {s t v : Tree (Entry T)} → Joinable L ls es i j next s t v → Before v (over s t v)
  over_before {i = i} {t = t} {v = v} q = subst (λ x. Before v (over x t v)) (sym q.one.is) (subst (λ y. Before v (over (node i q.one.entry q.one.children leaf) y v)) (sym q.two.is) refl)

  pub joined_before : {ls ls' : List K} {es : List (Entry T)} {i j : ℕ} {next r : Option ℕ} {s t v : Tree (Entry T)} → Joinable L ls es i j next s t v → Joined L (Joins s t v) ls es s t v ls' r → Joined L (Before v) ls es s t v ls' r
  joined_before {s = s} {t = t} {v = v} q m = joined_shape {R = Before v} s t v (over_before q) (over_before (join_swapped q)) m
