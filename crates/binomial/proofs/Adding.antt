-- A turn of the addition of two lists of trees of rising degrees.
use Rattle.std.proofs.Common.{◌≡◌, ℕ, ◌+◌, ◌<◌, ◌≤◌, Bool, List, [], ◌∷◌, length, get_or, set, Some, Option, sym, refl, ap, ◌∙◌, subst, arith}
use Rattle.elements.specs.declared.entries.Entry.{Entry}
use Rattle.elements.specs.Order.{Strict, precedes_by, stamp_of}
use Rattle.stores.specs.SortedLists.{merge, tally}
use Rattle.stores.proofs.Merging.{merge-nil, merge_assoc, merge_four, tally-merge}
use Rattle.cells.specs.Trees.{Tree, leaf, node, size}
use Rattle.cells.specs.Forms.{Meldable}
use Rattle.cells.proofs.Trees.{node_at}
use Rattle.forests.specs.Forests.{listed}
use Rattle.forests.specs.Parts.{Apart, Rooted, Joined, Added}
use Rattle.forests.proofs.Listing.{list_lone, tally_first, tally_lone}
use Rattle.forests.proofs.Parting.{kept, reshaped, siblings_at, rooted, beside}
use Rattle.forests.proofs.Adding.{rooted_kept, prepended}
use Rattle.binomial.specs.Binomial.{trees, Children, Lone, Rising, binomial, cells_of, no_link, before_next}
use Rattle.binomial.specs.declared.links.Link.{Link}
use Rattle.binomial.specs.Lawful.{laid}
use Rattle.binomial.proofs.Joining.{Twins, children_of}
use Rattle.binomial.proofs.Carrying.{lower}

-- two heaps that can be melded are two lists of trees of rising degrees
pub apart : {T : Type 0} (le : T → T → Bool) {ls : List Link} {es : List (Entry T)} {a b : Option ℕ} {s t : Tree (Entry T)} → Meldable (binomial le) ls es a b s t → Apart (cells_of le) (Rising 0) (Rising 0) ls es a b s t
apart le p = record { one = p.one; two = p.two; cells = p.cells; stamps = p.stamps; few = p.few }

module _ {T : Type 0} (le : T → T → Bool) (law : Strict (precedes_by le) (stamp_of {T = T})) where
  module _ (ls : List Link) (es : List (Entry T)) (a b : Option ℕ) (k i j : ℕ) (e f : Entry T) (c u d v : Tree (Entry T)) (p : Apart (cells_of le) (Rising k) (Rising k) ls es a b (node i e c u) (node j f d v)) where
    degree_i : (get_or ls i no_link).degree ≡ trees c
    degree_i = ap (λ (x : Link). x.degree) p.one.stored.linked.1

    degree_j : (get_or ls j no_link).degree ≡ trees d
    degree_j = ap (λ (x : Link). x.degree) p.two.stored.linked.1

    -- the first tree of the first list is of the lowest degree
    module _ (h : (get_or ls i no_link).degree < (get_or ls j no_link).degree) where
      low_apart : Apart (cells_of le) (Rising (trees c + 1)) (Rising (trees c + 1)) ls es (get_or ls i no_link).next b u (node j f d v)
      low_apart = record {
        one = siblings_at (cells_of le) (laid le) {Q = Rising (trees c + 1)} p.one.stored.valid.0.2 p.one;
        two = reshaped (cells_of le) {Q = Rising (trees c + 1)} (λ q. (omega (arith, h, degree_i, degree_j), q.1, q.2)) p.two;
        cells = λ n. omega (arith, p.cells n);
        stamps = λ n. omega (arith, p.stamps n, tally_first (precedes_by le) stamp_of i e c u n);
        few = omega (arith, p.few);
      }

      module _ (ls₁ : List Link) (r : Option ℕ) (long : length ls₁ ≡ length ls) (m : Added (cells_of le) (Rising (trees c + 1)) ls es u (node j f d v) ls₁ r) where
        o : Rooted (cells_of le) ls₁ es i (node i e c leaf)
        o = rooted_kept (cells_of le) long (λ n z. m.others n (omega (arith, z, p.cells n))) (rooted (cells_of le) (laid le) p.one)

        kids : Children (trees c) o.children
        kids = children_of le o (refl, (p.one.stored.valid.0.1, refl))

        low_joined : {last : List Link} → last ≡ set ls₁ i (before_next (get_or ls₁ i no_link) r) → Added (cells_of le) (Rising k) ls₁ es (node i e c leaf) m.tree last (Some i)
        low_joined is = prepended (cells_of le) (laid le) law (Rising k) ls₁ es i r (node i e c leaf) m.tree o m.stored_at (λ n. omega (arith, p.cells n, m.cells n)) is (omega (arith, kids.1, p.one.stored.valid.0.0), kids.0, subst (λ n. Rising (n + 1) m.tree) (sym kids.1) m.stored_at.stored.valid.0)

        low_added : {last : List Link} → last ≡ set ls₁ i (before_next (get_or ls₁ i no_link) r) → Added (cells_of le) (Rising k) ls es (node i e c u) (node j f d v) last (Some i)
        low_added is =
            let n = low_joined is in
            record {
              tree = n.tree;
              stored_at = n.stored_at;
              lists =
                  n.lists
                  ∙ ap (merge (precedes_by le) (listed (precedes_by le) (node i e c leaf))) m.lists
                  ∙ ap (λ x. merge (precedes_by le) x (merge (precedes_by le) (listed (precedes_by le) u) (listed (precedes_by le) (node j f d v)))) (list_lone (precedes_by le) i e c)
                  ∙ sym (merge_assoc (precedes_by le) stamp_of law (e ∷ listed (precedes_by le) c) (listed (precedes_by le) u) (listed (precedes_by le) (node j f d v)));
              cells = λ q. omega (arith, n.cells q, m.cells q);
              counts = omega (arith, n.counts, m.counts);
              others = λ q z. n.others q (omega (arith, z, m.cells q)) ∙ m.others q (omega (arith, z));
            }

    -- both first trees are of one degree
    module _ (h : trees c ≡ trees d) where
      tallied : (n : ℕ) → tally stamp_of (listed (precedes_by le) (node i e c leaf)) n + tally stamp_of (listed (precedes_by le) (node j f d leaf)) n + tally stamp_of (listed (precedes_by le) u) n + tally stamp_of (listed (precedes_by le) v) n ≤ 1
      tallied n = omega (arith, p.stamps n, tally_first (precedes_by le) stamp_of i e c u n, tally_first (precedes_by le) stamp_of j f d v n, tally_lone (precedes_by le) stamp_of i e c n, tally_lone (precedes_by le) stamp_of j f d n)

      even_twins : Twins le ls es (trees c) i j (node i e c leaf) (node j f d leaf)
      even_twins = record {
        joinable = record {
          one = rooted (cells_of le) (laid le) p.one;
          two = rooted (cells_of le) (laid le) p.two;
          behind = record { at = refl; stored = record { linked = tt; held = tt; valid = (tt, tt) } };
          cells = λ n. omega (arith, p.cells n);
          stamps = λ n. omega (arith, tallied n);
          few = omega (arith, p.few);
        };
        one = (refl, (p.one.stored.valid.0.1, refl));
        two = (refl, (p.two.stored.valid.0.1, sym h));
      }

      module _ (ls₁ : List Link) (r₁ : ℕ) (long₁ : length ls₁ ≡ length ls) (m₁ : Joined (cells_of le) (Lone (trees c + 1)) ls es (node i e c leaf) (node j f d leaf) leaf ls₁ (Some r₁)) where
        sum_tally : (n : ℕ) → tally stamp_of (listed (precedes_by le) m₁.tree) n ≡ tally stamp_of (listed (precedes_by le) (node i e c leaf)) n + tally stamp_of (listed (precedes_by le) (node j f d leaf)) n
        sum_tally n = omega (arith, ap (λ x. tally stamp_of x n) m₁.lists, tally-merge (precedes_by le) stamp_of (merge (precedes_by le) (listed (precedes_by le) (node i e c leaf)) (listed (precedes_by le) (node j f d leaf))) [] n, tally-merge (precedes_by le) stamp_of (listed (precedes_by le) (node i e c leaf)) (listed (precedes_by le) (node j f d leaf)) n)

        even_apart : Apart (cells_of le) (Rising (trees c + 1)) (Rising (trees c + 1)) ls₁ es (get_or ls i no_link).next (get_or ls j no_link).next u v
        even_apart = record {
          one = kept (cells_of le) long₁ (λ n z. m₁.others n (omega (arith, z, p.cells n))) (siblings_at (cells_of le) (laid le) {Q = Rising (trees c + 1)} p.one.stored.valid.0.2 p.one);
          two = kept (cells_of le) long₁ (λ n z. m₁.others n (omega (arith, z, p.cells n))) (siblings_at (cells_of le) (laid le) {Q = Rising (trees c + 1)} (subst (λ n. Rising (n + 1) v) (sym h) p.two.stored.valid.0.2) p.two);
          cells = λ n. omega (arith, p.cells n);
          stamps = λ n. omega (arith, tallied n);
          few = omega (arith, p.few);
        }

        module _ (ls₂ : List Link) (r₂ : Option ℕ) (long₂ : length ls₂ ≡ length ls₁) (m₂ : Added (cells_of le) (Rising (trees c + 1)) ls₁ es u v ls₂ r₂) where
          even_carry : Apart (cells_of le) (Lone (trees c + 1)) (Rising (trees c + 1)) ls₂ es (Some r₁) r₂ m₁.tree m₂.tree
          even_carry = beside (cells_of le) (laid le) law long₂ m₁.stored_at (λ n. omega (arith, p.cells n, m₁.cells n)) (λ n. omega (arith, tallied n, sum_tally n, tally-merge (precedes_by le) stamp_of (listed (precedes_by le) u) (listed (precedes_by le) v) n)) (omega (arith, p.few, m₁.counts)) m₂

          even_added : (ls₃ : List Link) (r : Option ℕ) → Added (cells_of le) (Rising (trees c + 1)) ls₂ es m₁.tree m₂.tree ls₃ r → Added (cells_of le) (Rising k) ls es (node i e c u) (node j f d v) ls₃ r
          even_added ls₃ r m = record {
            tree = m.tree;
            stored_at = reshaped (cells_of le) {Q = Rising k} (lower m.tree (omega (arith, p.one.stored.valid.0.0))) m.stored_at;
            lists =
                m.lists
                ∙ ap (λ x. merge (precedes_by le) x (listed (precedes_by le) m₂.tree)) (m₁.lists ∙ merge-nil (precedes_by le) (merge (precedes_by le) (listed (precedes_by le) (node i e c leaf)) (listed (precedes_by le) (node j f d leaf))))
                ∙ ap (merge (precedes_by le) (merge (precedes_by le) (listed (precedes_by le) (node i e c leaf)) (listed (precedes_by le) (node j f d leaf)))) m₂.lists
                ∙ merge_four (precedes_by le) stamp_of law (listed (precedes_by le) (node i e c leaf)) (listed (precedes_by le) (node j f d leaf)) (listed (precedes_by le) u) (listed (precedes_by le) v) (λ n. omega (arith, tallied n))
                ∙ ap (λ x. merge (precedes_by le) (merge (precedes_by le) x (listed (precedes_by le) u)) (merge (precedes_by le) (listed (precedes_by le) (node j f d leaf)) (listed (precedes_by le) v))) (list_lone (precedes_by le) i e c)
                ∙ ap (λ x. merge (precedes_by le) (listed (precedes_by le) (node i e c u)) (merge (precedes_by le) x (listed (precedes_by le) v))) (list_lone (precedes_by le) j f d);
            cells = λ q. omega (arith, m.cells q, m₁.cells q, m₂.cells q);
            counts = omega (arith, m.counts, m₁.counts, m₂.counts);
            others = λ q z. m.others q (omega (arith, z, m₁.cells q, m₂.cells q)) ∙ m₂.others q (omega (arith, z)) ∙ m₁.others q (omega (arith, z));
          }

  -- a turn where both first trees are of degree n, u and v behind them
  pub record Even (ls : List Link) (es : List (Entry T)) (k i j n : ℕ) (s t u v : Tree (Entry T)) : Type 0 where
    pub one : Tree (Entry T)
    pub two : Tree (Entry T)
    pub twins : Twins le ls es n i j one two
    pub rest : (ls₁ : List Link) (r₁ : ℕ) → length ls₁ ≡ length ls → Joined (cells_of le) (Lone (n + 1)) ls es one two leaf ls₁ (Some r₁) → Apart (cells_of le) (Rising (n + 1)) (Rising (n + 1)) ls₁ es (get_or ls i no_link).next (get_or ls j no_link).next u v
    pub carry : (ls₁ : List Link) (r₁ : ℕ) → length ls₁ ≡ length ls → (m₁ : Joined (cells_of le) (Lone (n + 1)) ls es one two leaf ls₁ (Some r₁)) → (ls₂ : List Link) (r₂ : Option ℕ) → length ls₂ ≡ length ls₁ → (m₂ : Added (cells_of le) (Rising (n + 1)) ls₁ es u v ls₂ r₂) → Apart (cells_of le) (Lone (n + 1)) (Rising (n + 1)) ls₂ es (Some r₁) r₂ m₁.tree m₂.tree
    pub ends : (ls₁ : List Link) (r₁ : ℕ) → length ls₁ ≡ length ls → (m₁ : Joined (cells_of le) (Lone (n + 1)) ls es one two leaf ls₁ (Some r₁)) → (ls₂ : List Link) (r₂ : Option ℕ) → length ls₂ ≡ length ls₁ → (m₂ : Added (cells_of le) (Rising (n + 1)) ls₁ es u v ls₂ r₂) → (ls₃ : List Link) (r : Option ℕ) → Added (cells_of le) (Rising (n + 1)) ls₂ es m₁.tree m₂.tree ls₃ r → Added (cells_of le) (Rising k) ls es s t ls₃ r

  -- a turn at the roots i and j
  pub record Digit (ls : List Link) (es : List (Entry T)) (b : Option ℕ) (k i j : ℕ) (s t : Tree (Entry T)) : Type 0 where
    pub within : (i < length ls) × (j < length ls)
    pub degree : ℕ
    pub u : Tree (Entry T)
    pub v : Tree (Entry T)
    pub fewer : (size u < size s) × (size v < size t)
    pub low : (get_or ls i no_link).degree < (get_or ls j no_link).degree → Apart (cells_of le) (Rising (degree + 1)) (Rising (degree + 1)) ls es (get_or ls i no_link).next b u t
    pub low_ends : (get_or ls i no_link).degree < (get_or ls j no_link).degree → (ls₁ : List Link) (r : Option ℕ) → length ls₁ ≡ length ls → Added (cells_of le) (Rising (degree + 1)) ls es u t ls₁ r → {last : List Link} → last ≡ set ls₁ i (before_next (get_or ls₁ i no_link) r) → Added (cells_of le) (Rising k) ls es s t last (Some i)
    pub even : (get_or ls i no_link).degree ≤ (get_or ls j no_link).degree → (get_or ls j no_link).degree ≤ (get_or ls i no_link).degree → Even ls es k i j degree s t u v

  digit_at : (ls : List Link) (es : List (Entry T)) (a b : Option ℕ) (k i j : ℕ) (e f : Entry T) (c u d v : Tree (Entry T)) → Apart (cells_of le) (Rising k) (Rising k) ls es a b (node i e c u) (node j f d v) → Digit ls es b k i j (node i e c u) (node j f d v)
  digit_at ls es a b k i j e f c u d v p = record {
    within = (p.one.stored.linked.0, p.two.stored.linked.0);
    degree = trees c;
    u = u;
    v = v;
    fewer = (omega arith, omega arith);
    low = low_apart ls es a b k i j e f c u d v p;
    low_ends = low_added ls es a b k i j e f c u d v p;
    even = λ h₁ h₂.
        let h : trees c ≡ trees d = omega (arith, h₁, h₂, degree_i ls es a b k i j e f c u d v p, degree_j ls es a b k i j e f c u d v p) in
        record {
          one = node i e c leaf;
          two = node j f d leaf;
          twins = even_twins ls es a b k i j e f c u d v p h;
          rest = even_apart ls es a b k i j e f c u d v p h;
          carry = even_carry ls es a b k i j e f c u d v p h;
          ends = even_added ls es a b k i j e f c u d v p h;
        };
  }

  pub digit : {ls : List Link} {es : List (Entry T)} {a b : Option ℕ} {k i j : ℕ} (s t : Tree (Entry T)) → a ≡ Some i → b ≡ Some j → Apart (cells_of le) (Rising k) (Rising k) ls es a b s t → Digit ls es (Some j) k i j s t
  digit {ls} {es} {a} {b} {k} {i} {j} s t at_a at_b p =
      let x = node_at s i (sym at_a ∙ p.one.at) in
      let y = node_at t j (sym at_b ∙ p.two.at) in
      let q = subst (λ z. Apart (cells_of le) (Rising k) (Rising k) ls es a (Some j) (node i x.entry x.left x.right) z) y.is (subst (λ z. Apart (cells_of le) (Rising k) (Rising k) ls es a (Some j) z t) x.is (subst (λ o. Apart (cells_of le) (Rising k) (Rising k) ls es a o s t) at_b p)) in
      subst (λ z. Digit ls es (Some j) k i j z t) (sym x.is) (subst (λ z. Digit ls es (Some j) k i j (node i x.entry x.left x.right) z) (sym y.is) (digit_at ls es a (Some j) k i j x.entry y.entry x.left x.right y.left y.right q))
