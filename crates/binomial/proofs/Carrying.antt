-- A turn of the carry: a tree of degree k, and trees of no lower degrees.
use Rattle.std.proofs.Common.{◌≡◌, ℕ, ◌+◌, ◌<◌, ◌≤◌, Bool, List, [], length, get_or, set, Some, None, Option, sym, refl, ap, ◌∙◌, subst, arith}
use Rattle.elements.specs.declared.entries.Entry.{Entry}
use Rattle.elements.specs.Order.{Strict, precedes_by, stamp_of}
use Rattle.stores.specs.SortedLists.{merge, tally}
use Rattle.stores.proofs.Merging.{merge-nil, merge_assoc, tally-merge}
use Rattle.cells.specs.Trees.{Tree, leaf, node, size}
use Rattle.cells.proofs.Trees.{node_at}
use Rattle.forests.specs.Forests.{Before, listed}
use Rattle.forests.specs.Parts.{Apart, Rooted, Joined, Added}
use Rattle.forests.proofs.Listing.{list_lone, tally_first, tally_lone}
use Rattle.forests.proofs.Parting.{reshaped, built_shaped, siblings_at, rooted, rooted_lone, beside}
use Rattle.forests.proofs.Adding.{apart_swapped, added_none, added_unswapped, prepended}
use Rattle.binomial.specs.Binomial.{trees, Children, Lone, Rising, cells_of, no_link, before_next}
use Rattle.binomial.specs.declared.links.Link.{Link}
use Rattle.binomial.specs.Lawful.{laid}
use Rattle.binomial.proofs.Joining.{Twins, children_of}

lone_before : {A : Type 0} (k : ℕ) (t : Tree A) → Lone k t → Before leaf t
lone_before k leaf h = h
lone_before k (node i e c s) h = h.0

pub lower : {A : Type 0} {k m : ℕ} (t : Tree A) → k ≤ m → Rising m t → Rising k t
lower leaf few h = tt
lower (node i e c s) few h = (omega (arith, few, h.0), h.1, h.2)

-- one tree is a list of rising degrees
lone_rising : {A : Type 0} (k : ℕ) (t : Tree A) → Lone k t → Rising k t
lone_rising k leaf h = tt
lone_rising k (node i e c s) h = (omega (arith, h.1.1), h.1.0, subst (Rising (trees c + 1)) (sym h.0) tt)

module _ {T : Type 0} (le : T → T → Bool) (law : Strict (precedes_by le) (stamp_of {T = T})) where
  -- no tree is left
  pub carry_none : {ls : List Link} {es : List (Entry T)} {b : Option ℕ} {k i : ℕ} (s t : Tree (Entry T)) → b ≡ None → Apart (cells_of le) (Lone k) (Rising k) ls es (Some i) b s t → Added (cells_of le) (Rising k) ls es s t ls (Some i)
  carry_none {k = k} s t none p = built_shaped (cells_of le) {Q = Rising k} (lone_rising k) (added_unswapped (cells_of le) (laid le) law p (added_none (cells_of le) (laid le) law t s none (apart_swapped (cells_of le) p)))

  module _ (ls : List Link) (es : List (Entry T)) (b : Option ℕ) (k i j : ℕ) (s : Tree (Entry T)) (f : Entry T) (d u : Tree (Entry T)) (p : Apart (cells_of le) (Lone k) (Rising k) ls es (Some i) b s (node j f d u)) where
    o : Rooted (cells_of le) ls es i s
    o = rooted_lone (cells_of le) (laid le) s (lone_before k s p.one.stored.valid.0) p.one

    kids : Children k o.children
    kids = children_of le o p.one.stored.valid.0

    degree_i : (get_or ls i no_link).degree ≡ k
    degree_i = ap (λ (x : Link). x.degree) o.linked ∙ kids.1

    degree_j : (get_or ls j no_link).degree ≡ trees d
    degree_j = ap (λ (x : Link). x.degree) p.two.stored.linked.1

    in_front : (get_or ls i no_link).degree < (get_or ls j no_link).degree → {last : List Link} → last ≡ set ls i (before_next (get_or ls i no_link) b) → Added (cells_of le) (Rising k) ls es s (node j f d u) last (Some i)
    in_front h is = prepended (cells_of le) (laid le) law (Rising k) ls es i b s (node j f d u) o p.two p.cells is (omega (arith, kids.1), kids.0, (omega (arith, h, degree_i, degree_j, kids.1), p.two.stored.valid.0.1, p.two.stored.valid.0.2))

    tallied : (n : ℕ) → tally stamp_of (listed (precedes_by le) s) n + tally stamp_of (listed (precedes_by le) (node j f d leaf)) n + tally stamp_of (listed (precedes_by le) u) n ≤ 1
    tallied n = omega (arith, p.stamps n, tally_first (precedes_by le) stamp_of j f d u n, tally_lone (precedes_by le) stamp_of j f d n)

    module _ (h : (get_or ls j no_link).degree ≤ (get_or ls i no_link).degree) where
      same_degree : trees d ≡ k
      same_degree = omega (arith, h, degree_i, degree_j, p.two.stored.valid.0.0)

      twins : Twins le ls es k i j s (node j f d leaf)
      twins = record {
        joinable = record {
          one = o;
          two = rooted (cells_of le) (laid le) p.two;
          behind = record { at = refl; stored = record { linked = tt; held = tt; valid = (tt, tt) } };
          cells = λ n. omega (arith, p.cells n);
          stamps = λ n. omega (arith, tallied n);
          few = omega (arith, p.few);
        };
        one = p.one.stored.valid.0;
        two = (refl, (p.two.stored.valid.0.1, same_degree));
      }

      module _ (ls₁ : List Link) (r : ℕ) (long : length ls₁ ≡ length ls) (m : Joined (cells_of le) (Lone (k + 1)) ls es s (node j f d leaf) leaf ls₁ (Some r)) where
        carried_apart : Apart (cells_of le) (Lone (k + 1)) (Rising (k + 1)) ls₁ es (Some r) (get_or ls j no_link).next m.tree u
        carried_apart = apart_swapped (cells_of le) (beside (cells_of le) (laid le) law long (siblings_at (cells_of le) (laid le) {Q = Rising (k + 1)} (subst (λ n. Rising (n + 1) u) same_degree p.two.stored.valid.0.2) p.two) (λ n. omega (arith, p.cells n)) (λ n. omega (arith, tallied n, tally-merge (precedes_by le) stamp_of (merge (precedes_by le) (listed (precedes_by le) s) (listed (precedes_by le) (node j f d leaf))) [] n, tally-merge (precedes_by le) stamp_of (listed (precedes_by le) s) (listed (precedes_by le) (node j f d leaf)) n)) (omega (arith, p.few)) m)

        carried : (ls₂ : List Link) (r₂ : Option ℕ) → Added (cells_of le) (Rising (k + 1)) ls₁ es m.tree u ls₂ r₂ → Added (cells_of le) (Rising k) ls es s (node j f d u) ls₂ r₂
        carried ls₂ r₂ n = record {
          tree = n.tree;
          stored_at = reshaped (cells_of le) {Q = Rising k} (lower n.tree (omega arith)) n.stored_at;
          lists =
              n.lists
              ∙ ap (λ x. merge (precedes_by le) x (listed (precedes_by le) u)) (m.lists ∙ merge-nil (precedes_by le) (merge (precedes_by le) (listed (precedes_by le) s) (listed (precedes_by le) (node j f d leaf))))
              ∙ merge_assoc (precedes_by le) stamp_of law (listed (precedes_by le) s) (listed (precedes_by le) (node j f d leaf)) (listed (precedes_by le) u)
              ∙ ap (λ x. merge (precedes_by le) (listed (precedes_by le) s) (merge (precedes_by le) x (listed (precedes_by le) u))) (list_lone (precedes_by le) j f d);
          cells = λ q. omega (arith, n.cells q, m.cells q);
          counts = omega (arith, n.counts, m.counts);
          others = λ q z. n.others q (omega (arith, z, m.cells q)) ∙ m.others q (omega (arith, z));
        }

  -- a turn at the roots i and j
  pub record Carry (ls : List Link) (es : List (Entry T)) (b : Option ℕ) (k i j : ℕ) (s t : Tree (Entry T)) : Type 0 where
    pub within : (i < length ls) × (j < length ls)
    pub front : (get_or ls i no_link).degree < (get_or ls j no_link).degree → {last : List Link} → last ≡ set ls i (before_next (get_or ls i no_link) b) → Added (cells_of le) (Rising k) ls es s t last (Some i)
    pub first : Tree (Entry T)
    pub more : Tree (Entry T)
    pub fewer : size more < size t
    pub twins : (get_or ls j no_link).degree ≤ (get_or ls i no_link).degree → Twins le ls es k i j s first
    pub apart : (get_or ls j no_link).degree ≤ (get_or ls i no_link).degree → (ls₁ : List Link) (r : ℕ) → length ls₁ ≡ length ls → (m : Joined (cells_of le) (Lone (k + 1)) ls es s first leaf ls₁ (Some r)) → Apart (cells_of le) (Lone (k + 1)) (Rising (k + 1)) ls₁ es (Some r) (get_or ls j no_link).next m.tree more
    pub ends : (get_or ls j no_link).degree ≤ (get_or ls i no_link).degree → (ls₁ : List Link) (r : ℕ) → length ls₁ ≡ length ls → (m : Joined (cells_of le) (Lone (k + 1)) ls es s first leaf ls₁ (Some r)) → (ls₂ : List Link) (r₂ : Option ℕ) → Added (cells_of le) (Rising (k + 1)) ls₁ es m.tree more ls₂ r₂ → Added (cells_of le) (Rising k) ls es s t ls₂ r₂

  pub carry_turn : {ls : List Link} {es : List (Entry T)} {b : Option ℕ} {k i j : ℕ} (s t : Tree (Entry T)) → b ≡ Some j → Apart (cells_of le) (Lone k) (Rising k) ls es (Some i) b s t → Carry ls es (Some j) k i j s t
  carry_turn {ls} {es} {b} {k} {i} {j} s t at p =
      let n = node_at t j (sym at ∙ p.two.at) in
      let q = subst (λ z. Apart (cells_of le) (Lone k) (Rising k) ls es (Some i) (Some j) s z) n.is (subst (λ o. Apart (cells_of le) (Lone k) (Rising k) ls es (Some i) o s t) at p) in
      subst (λ z. Carry ls es (Some j) k i j s z) (sym n.is) (record {
        within = ((o ls es (Some j) k i j s n.entry n.left n.right q).within, q.two.stored.linked.0);
        front = in_front ls es (Some j) k i j s n.entry n.left n.right q;
        first = node j n.entry n.left leaf;
        more = n.right;
        fewer = omega arith;
        twins = twins ls es (Some j) k i j s n.entry n.left n.right q;
        apart = carried_apart ls es (Some j) k i j s n.entry n.left n.right q;
        ends = carried ls es (Some j) k i j s n.entry n.left n.right q;
      })
