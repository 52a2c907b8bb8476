-- Forests in slices: what stays, what is read back, and how one forest is divided into two, tree by tree.
use Rattle.std.proofs.Common.{◌≡◌, ℕ, ◌+◌, ◌<◌, ◌≤◌, List, length, get_or, set, Some, None, Option, sym, refl, ap, ◌∙◌, subst, arith, length-set, Bool}
use Rattle.std.proofs.lemmas.List.{get_or-set_same, get_or-set_other}
use Rattle.std.proofs.lemmas.Bool.Decides.{nat_tests}
use Rattle.elements.specs.declared.entries.Entry.{Entry}
use Rattle.elements.specs.Order.{Strict, precedes_by, stamp_of}
use Rattle.stores.specs.SortedLists.{merge, tally}
use Rattle.stores.proofs.Merging.{merge-nil}
use Rattle.cells.specs.Trees.{Tree, leaf, node, root, size, uses, Linked, tree_at}
use Rattle.cells.specs.Forms.{StoredAt, Built}
use Rattle.cells.proofs.Trees.{framed, set_framed, read_back, Node, node_at, leaf_at}
use Rattle.forests.specs.Forests.{Layout, Before, listed, shaped}
use Rattle.forests.specs.Parts.{ForestAt, Apart, Parted, Rooted}
use Rattle.forests.specs.Layouts.{Consistent}
use Rattle.forests.proofs.Listing.{list_moved, tally_first}

module _ {T K : Type 0} {le : T → T → Bool} (L : Layout le K) where
  -- how many nodes the forest at a has that is read from the slices
  abbrev pub extent : List K → List (Entry T) → Option ℕ → ℕ
  extent ls es a = size (tree_at L.child L.next L.none ls es 4096 a)

  -- a forest stays where its cells stay
  pub kept : {P : Tree (Entry T) → Type 0} {ls ls' : List K} {es : List (Entry T)} {a : Option ℕ} {t : Tree (Entry T)} → length ls' ≡ length ls → ((k : ℕ) → 0 < uses t k → get_or ls' k L.none ≡ get_or ls k L.none) → StoredAt (shaped L P) ls es a t → StoredAt (shaped L P) ls' es a t
  kept {ls = ls} {ls' = ls'} {t = t} long same h = record { at = h.at; stored = record { linked = framed L.link L.none ls ls' t (omega (arith, long)) same h.stored.linked; held = h.stored.held; valid = h.stored.valid } }

  pub reshaped : {P Q : Tree (Entry T) → Type 0} {ls : List K} {es : List (Entry T)} {a : Option ℕ} {t : Tree (Entry T)} → (P t → Q t) → StoredAt (shaped L P) ls es a t → StoredAt (shaped L Q) ls es a t
  reshaped f h = record { at = h.at; stored = record { linked = h.stored.linked; held = h.stored.held; valid = (f h.stored.valid.0, h.stored.valid.1) } }

  pub built_shaped : {P Q : Tree (Entry T) → Type 0} {ls ls' : List K} {es list : List (Entry T)} {own : ℕ → ℕ} {count : ℕ} {r : Option ℕ} → ((t : Tree (Entry T)) → P t → Q t) → Built (shaped L P) ls es list own count ls' r → Built (shaped L Q) ls es list own count ls' r
  built_shaped f m = record { tree = m.tree; stored_at = reshaped (f m.tree) m.stored_at; lists = m.lists; cells = m.cells; counts = m.counts; others = m.others }

  -- a forest that is built of another one that was built
  pub built_then : {P Q : Tree (Entry T) → Type 0} {ls ls₁ ls₂ : List K} {es list : List (Entry T)} {own : ℕ → ℕ} {count : ℕ} {a r : Option ℕ} → (m : Built (shaped L P) ls es list own count ls₁ a) → Built (shaped L Q) ls₁ es (listed (precedes_by le) m.tree) (uses m.tree) (size m.tree) ls₂ r → Built (shaped L Q) ls es list own count ls₂ r
  built_then m n = record {
    tree = n.tree;
    stored_at = n.stored_at;
    lists = n.lists ∙ m.lists;
    cells = λ k. n.cells k ∙ m.cells k;
    counts = n.counts ∙ m.counts;
    others = λ k z. n.others k (m.cells k ∙ z) ∙ m.others k z;
  }

  -- what was built can be used as a forest again
  pub built_forest : {P : Tree (Entry T) → Type 0} {ls ls' : List K} {es : List (Entry T)} {a b : Option ℕ} {t : Tree (Entry T)} {Q : Tree (Entry T) → Type 0} → ForestAt L Q ls es a t → (m : Built (shaped L P) ls es (listed (precedes_by le) t) (uses t) (size t) ls' b) → ForestAt L P ls' es b m.tree
  built_forest f m = record {
    stored_at = m.stored_at;
    cells = λ k. omega (arith, m.cells k, f.cells k);
    stamps = λ k. omega (arith, ap (λ x. tally stamp_of x k) m.lists, f.stamps k);
    few = omega (arith, m.counts, f.few);
  }

  module _ (laid : Consistent L) where
    pub extent_is : {P : Tree (Entry T) → Type 0} {ls : List K} {es : List (Entry T)} {a : Option ℕ} {t : Tree (Entry T)} → size t ≤ 4096 → StoredAt (shaped L P) ls es a t → extent ls es a ≡ size t
    extent_is {ls = ls} {es = es} {t = t} few h = ap (extent ls es) h.at ∙ ap size (read_back L.child L.next L.link L.none laid.child_is laid.next_is ls es 4096 t few h.stored.linked h.stored.held)

    -- a root gets other siblings
    pub relinked : (ls : List K) (i : ℕ) (e : Entry T) (c s s' : Tree (Entry T)) (o : Option ℕ) → i < length ls → get_or ls i L.none ≡ L.link c s → Linked L.link L.none ls c → o ≡ root s' → Linked L.link L.none ls s' → uses c i ≡ 0 → uses s' i ≡ 0 → Linked L.link L.none (set ls i (L.with_next (get_or ls i L.none) o)) (node i e c s')
    relinked ls i e c s s' o within at below o_is behind zc zs = (
      omega (arith, length-set ls i (L.with_next (get_or ls i L.none) o), within),
      get_or-set_same ls i (L.with_next (get_or ls i L.none) o) L.none within ∙ ap (λ x. L.with_next x o) at ∙ ap (L.with_next (L.link c s)) o_is ∙ laid.with_next_is c s s',
      set_framed L.link L.none ls c i (L.with_next (get_or ls i L.none) o) zc below,
      set_framed L.link L.none ls s' i (L.with_next (get_or ls i L.none) o) zs behind,
    )

    -- the siblings behind the first root
    pub siblings_at : {P Q : Tree (Entry T) → Type 0} {ls : List K} {es : List (Entry T)} {a : Option ℕ} {i : ℕ} {e : Entry T} {c u : Tree (Entry T)} → Q u → StoredAt (shaped L P) ls es a (node i e c u) → StoredAt (shaped L Q) ls es (L.next (get_or ls i L.none)) u
    siblings_at {c = c} {u = u} shape h = record {
      at = ap L.next h.stored.linked.1 ∙ laid.next_is c u;
      stored = record { linked = h.stored.linked.3; held = h.stored.held.3; valid = (shape, h.stored.valid.1.2) };
    }

    -- the first tree, without its siblings
    pub rooted : {P : Tree (Entry T) → Type 0} {ls : List K} {es : List (Entry T)} {a : Option ℕ} {i : ℕ} {e : Entry T} {c u : Tree (Entry T)} → StoredAt (shaped L P) ls es a (node i e c u) → Rooted L ls es i (node i e c leaf)
    rooted {e = e} {c = c} {u = u} h = record {
      entry = e;
      children = c;
      siblings = u;
      is = refl;
      within = h.stored.linked.0;
      linked = h.stored.linked.1;
      below = h.stored.linked.2;
      held = (h.stored.held.0, h.stored.held.1, h.stored.held.2, tt);
      ordered = (h.stored.valid.1.0, h.stored.valid.1.1, tt);
    }

    -- a tree with no siblings
    pub rooted_lone : {P : Tree (Entry T) → Type 0} {ls : List K} {es : List (Entry T)} {i : ℕ} (t : Tree (Entry T)) → Before leaf t → StoredAt (shaped L P) ls es (Some i) t → Rooted L ls es i t
    rooted_lone leaf b h = absurd b
    rooted_lone {ls = ls} {es = es} {i = i} (node j e c s) b h =
        let at = h.at in
        let same : i ≡ j = cc in
        subst (λ k. Rooted L ls es k (node j e c s)) (sym same) (record {
          entry = e;
          children = c;
          siblings = s;
          is = ap (λ x. node j e c x) b;
          within = h.stored.linked.0;
          linked = h.stored.linked.1;
          below = h.stored.linked.2;
          held = h.stored.held;
          ordered = h.stored.valid.1;
        })

    module _ (law : Strict (precedes_by le) (stamp_of {T = T})) where
      -- nothing is moved yet
      pub part_start : {P Q : Tree (Entry T) → Type 0} {ls : List K} {es : List (Entry T)} {a : Option ℕ} {t : Tree (Entry T)} → Q leaf → ForestAt L P ls es a t → Parted L P Q ls es (listed (precedes_by le) t) (uses t) (size t) ls a None
      part_start {t = t} shape f = record {
        first = t;
        second = leaf;
        apart = record { one = f.stored_at; two = record { at = refl; stored = record { linked = tt; held = tt; valid = (shape, tt) } }; cells = λ k. omega (arith, f.cells k); stamps = λ k. omega (arith, f.stamps k); few = omega (arith, f.few) };
        lists = merge-nil (precedes_by le) (listed (precedes_by le) t);
        cells = λ k. omega arith;
        counts = omega arith;
        others = λ k z. refl;
      }

      -- everything is moved
      pub part_end : {P Q : Tree (Entry T) → Type 0} {ls ls' : List K} {es list : List (Entry T)} {own : ℕ → ℕ} {count : ℕ} {a b : Option ℕ} → a ≡ None → Parted L P Q ls es list own count ls' a b → Built (shaped L Q) ls es list own count ls' b
      part_end none p =
          let z = leaf_at p.first (sym none ∙ p.apart.one.at) in
          record {
            tree = p.second;
            stored_at = p.apart.two;
            lists = sym (ap (λ x. merge (precedes_by le) (listed (precedes_by le) x) (listed (precedes_by le) p.second)) z) ∙ p.lists;
            cells = λ k. omega (arith, p.cells k, ap (λ x. uses x k) z);
            counts = omega (arith, p.counts, ap size z);
            others = p.others;
          }

      -- one division after another
      part_then : {P Q P' Q' : Tree (Entry T) → Type 0} {ls ls₁ ls₂ : List K} {es list : List (Entry T)} {own : ℕ → ℕ} {count : ℕ} {a b a' b' : Option ℕ} → (p : Parted L P Q ls es list own count ls₁ a b) → Parted L P' Q' ls₁ es (merge (precedes_by le) (listed (precedes_by le) p.first) (listed (precedes_by le) p.second)) (λ k. uses p.first k + uses p.second k) (size p.first + size p.second) ls₂ a' b' → Parted L P' Q' ls es list own count ls₂ a' b'
      part_then p q = record {
        first = q.first;
        second = q.second;
        apart = q.apart;
        lists = q.lists ∙ p.lists;
        cells = λ k. q.cells k ∙ p.cells k;
        counts = q.counts ∙ p.counts;
        others = λ k z. q.others k (p.cells k ∙ z) ∙ p.others k z;
      }

      -- the first root of the first forest
      module _ {P Q : Tree (Entry T) → Type 0} {ls₀ ls : List K} {es list : List (Entry T)} {own : ℕ → ℕ} {count : ℕ} {a b : Option ℕ} (p : Parted L P Q ls₀ es list own count ls a b) {i : ℕ} (at : a ≡ Some i) where
        pub first_node : Node p.first i
        first_node = node_at p.first i (sym at ∙ p.apart.one.at)

        pub first_apart : Apart L P Q ls es (Some i) b (node i first_node.entry first_node.left first_node.right) p.second
        first_apart = subst (λ z. Apart L P Q ls es (Some i) b z p.second) first_node.is (subst (λ o. Apart L P Q ls es o b p.first p.second) at p.apart)

        pub first_back : {P' Q' : Tree (Entry T) → Type 0} {ls₁ : List K} {a' b' : Option ℕ} → Parted L P' Q' ls es (merge (precedes_by le) (listed (precedes_by le) (node i first_node.entry first_node.left first_node.right)) (listed (precedes_by le) p.second)) (λ k. uses (node i first_node.entry first_node.left first_node.right) k + uses p.second k) (size (node i first_node.entry first_node.left first_node.right) + size p.second) ls₁ a' b' → Parted L P' Q' ls₀ es list own count ls₁ a' b'
        first_back {P'} {Q'} {ls₁} {a'} {b'} q = part_then p (subst (λ z. Parted L P' Q' ls es (merge (precedes_by le) (listed (precedes_by le) z) (listed (precedes_by le) p.second)) (λ k. uses z k + uses p.second k) (size z + size p.second) ls₁ a' b') (sym first_node.is) q)

      -- the first tree of one forest goes before the other forest
      module _ {P Q : Tree (Entry T) → Type 0} (P' Q' : Tree (Entry T) → Type 0) (ls : List K) (es : List (Entry T)) (b : Option ℕ) (i : ℕ) (e : Entry T) (c u t : Tree (Entry T)) (p : Apart L P Q ls es (Some i) b (node i e c u) t) (shape-u : P' u) (shape-t : Q' (node i e c t)) where
        abbrev last : List K
        last = set ls i (L.with_next (get_or ls i L.none) b)

        long : length last ≡ length ls
        long = length-set ls i (L.with_next (get_or ls i L.none) b)

        same : (k : ℕ) → (k ≡ i → ⊥) → get_or last k L.none ≡ get_or ls k L.none
        same k z = get_or-set_other ls i k (L.with_next (get_or ls i L.none) b) L.none z

        pub moved_siblings : StoredAt (shaped L P') last es (L.next (get_or ls i L.none)) u
        moved_siblings = kept long (λ k z. same k (λ y. grind (arith, nat_tests, p.cells k, z, y))) (siblings_at shape-u p.one)

        pub moved_first : Parted L P' Q' ls es (merge (precedes_by le) (listed (precedes_by le) (node i e c u)) (listed (precedes_by le) t)) (λ k. uses (node i e c u) k + uses t k) (size (node i e c u) + size t) last (L.next (get_or ls i L.none)) (Some i)
        moved_first = record {
          first = u;
          second = node i e c t;
          apart = record {
            one = moved_siblings;
            two = record {
              at = refl;
              stored = record {
                linked = relinked ls i e c u t b p.one.stored.linked.0 p.one.stored.linked.1 p.one.stored.linked.2 p.two.at p.two.stored.linked (grind (arith, nat_tests, p.cells i)) (grind (arith, nat_tests, p.cells i));
                held = (p.one.stored.held.0, p.one.stored.held.1, p.one.stored.held.2, p.two.stored.held);
                valid = (shape-t, (p.one.stored.valid.1.0, p.one.stored.valid.1.1, p.two.stored.valid.1));
              };
            };
            cells = λ k. omega (arith, p.cells k);
            stamps = λ k. omega (arith, p.stamps k, tally_first (precedes_by le) stamp_of i e c u k, tally_first (precedes_by le) stamp_of i e c t k);
            few = omega (arith, p.few);
          };
          lists = list_moved (precedes_by le) stamp_of law i e c u t (λ k. omega (arith, p.stamps k));
          cells = λ k. omega arith;
          counts = omega arith;
          others = λ k z. same k (grind (arith, nat_tests, z));
        }

      -- a forest beside what was built of others
      pub beside : {P R : Tree (Entry T) → Type 0} {ls ls₁ : List K} {es list : List (Entry T)} {own : ℕ → ℕ} {count : ℕ} {a r : Option ℕ} {u : Tree (Entry T)} → length ls₁ ≡ length ls → StoredAt (shaped L P) ls es a u → ((k : ℕ) → uses u k + own k ≤ 1) → ((k : ℕ) → tally stamp_of (listed (precedes_by le) u) k + tally stamp_of list k ≤ 1) → size u + count ≤ 4096 → (m : Built (shaped L R) ls es list own count ls₁ r) → Apart L P R ls₁ es a r u m.tree
      beside long h cells stamps few m = record {
        one = kept long (λ k z. m.others k (omega (arith, z, cells k))) h;
        two = m.stored_at;
        cells = λ k. omega (arith, cells k, m.cells k);
        stamps = λ k. omega (arith, stamps k, ap (λ x. tally stamp_of x k) m.lists);
        few = omega (arith, few, m.counts);
      }
