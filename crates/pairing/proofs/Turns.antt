-- A turn of either pass over the children of a root.
use Rattle.std.proofs.Common.{◌≡◌, ℕ, ◌+◌, ◌<◌, Bool, List, [], length, get_or, set, Some, None, Option, sym, refl, ap, ◌∙◌, subst, arith}
use Rattle.elements.specs.declared.entries.Entry.{Entry}
use Rattle.elements.specs.Order.{Strict, precedes_by, stamp_of}
use Rattle.stores.specs.SortedLists.{merge}
use Rattle.stores.proofs.Merging.{tally-merge}
use Rattle.cells.specs.Trees.{Tree, leaf, node, size, uses}
use Rattle.cells.specs.Forms.{StoredAt}
use Rattle.cells.proofs.Trees.{Node, node_at, leaf_at}
use Rattle.forests.specs.Forests.{Any, Before, listed, shaped}
use Rattle.forests.specs.Parts.{Apart, Parted, Joinable, Joined}
use Rattle.forests.proofs.Listing.{list_paired, list_gathered, tally_first, tally_lone}
use Rattle.forests.proofs.Parting.{extent, extent_is, kept, built_shaped, siblings_at, rooted, rooted_lone, first_node, first_apart, first_back, moved_first, moved_siblings, beside}
use Rattle.pairing.specs.Pairing.{Alone, cells_of, no_link, before_next}
use Rattle.pairing.specs.declared.links.Link.{Link}
use Rattle.pairing.specs.Lawful.{laid}
use Rattle.pairing.proofs.Melding.{lone, alone}

module _ {T : Type 0} (le : T → T → Bool) (law : Strict (precedes_by le) (stamp_of {T = T})) where
  -- the trees at i and j, the first two, become one before v; u are the siblings behind them
  module _ (ls : List Link) (es : List (Entry T)) (b : Option ℕ) (i j : ℕ) (e f : Entry T) (c d u v : Tree (Entry T)) (p : Apart (cells_of le) Any Any ls es (Some i) b (node i e c (node j f d u)) v) where
    pair_joinable : Joinable (cells_of le) ls es i j b (node i e c leaf) (node j f d leaf) v
    pair_joinable = record {
      one = rooted (cells_of le) (laid le) p.one;
      two = rooted (cells_of le) (laid le) (siblings_at (cells_of le) (laid le) {Q = Any} tt p.one);
      behind = p.two;
      cells = λ k. omega (arith, p.cells k);
      stamps = λ k. omega (arith, p.stamps k, tally_first (precedes_by le) stamp_of i e c (node j f d u) k, tally_first (precedes_by le) stamp_of j f d u k, tally_lone (precedes_by le) stamp_of i e c k, tally_lone (precedes_by le) stamp_of j f d k);
      few = omega (arith, p.few);
    }

    pair_parted : (ls₁ : List Link) (r : ℕ) → length ls₁ ≡ length ls → Joined (cells_of le) Any ls es (node i e c leaf) (node j f d leaf) v ls₁ (Some r) → Parted (cells_of le) Any Any ls es (merge (precedes_by le) (listed (precedes_by le) (node i e c (node j f d u))) (listed (precedes_by le) v)) (λ k. uses (node i e c (node j f d u)) k + uses v k) (size (node i e c (node j f d u)) + size v) ls₁ (get_or ls j no_link).next (Some r)
    pair_parted ls₁ r long m = record {
      first = u;
      second = m.tree;
      apart = beside (cells_of le) (laid le) law long (siblings_at (cells_of le) (laid le) {Q = Any} tt (siblings_at (cells_of le) (laid le) {Q = Any} tt p.one)) (λ k. omega (arith, p.cells k)) (λ k. omega (arith, p.stamps k, tally_first (precedes_by le) stamp_of i e c (node j f d u) k, tally_first (precedes_by le) stamp_of j f d u k, tally-merge (precedes_by le) stamp_of (merge (precedes_by le) (listed (precedes_by le) (node i e c leaf)) (listed (precedes_by le) (node j f d leaf))) (listed (precedes_by le) v) k, tally-merge (precedes_by le) stamp_of (listed (precedes_by le) (node i e c leaf)) (listed (precedes_by le) (node j f d leaf)) k, tally_lone (precedes_by le) stamp_of i e c k, tally_lone (precedes_by le) stamp_of j f d k)) (omega (arith, p.few)) m;
      lists = ap (merge (precedes_by le) (listed (precedes_by le) u)) m.lists ∙ list_paired (precedes_by le) stamp_of law i j e f c d u v (λ k. omega (arith, p.stamps k));
      cells = λ k. omega (arith, m.cells k);
      counts = omega (arith, m.counts);
      others = λ k z. m.others k (omega (arith, z));
    }

  -- the tree at i, the first, and the heap w at j become one; u are the siblings behind i
  module _ (ls : List Link) (es : List (Entry T)) (i j : ℕ) (e : Entry T) (c u w : Tree (Entry T)) (p : Apart (cells_of le) Any Alone ls es (Some i) (Some j) (node i e c u) w) where
    gather_joinable : Joinable (cells_of le) ls es j i None w (node i e c leaf) leaf
    gather_joinable = record {
      one = rooted_lone (cells_of le) (laid le) w (lone w j p.two.at p.two.stored.valid.0) p.two;
      two = rooted (cells_of le) (laid le) p.one;
      behind = record { at = refl; stored = record { linked = tt; held = tt; valid = (tt, tt) } };
      cells = λ k. omega (arith, p.cells k);
      stamps = λ k. omega (arith, p.stamps k, tally_first (precedes_by le) stamp_of i e c u k, tally_lone (precedes_by le) stamp_of i e c k);
      few = omega (arith, p.few);
    }

    gather_parted : (ls₁ : List Link) (r : ℕ) → length ls₁ ≡ length ls → Joined (cells_of le) Alone ls es w (node i e c leaf) leaf ls₁ (Some r) → Parted (cells_of le) Any Alone ls es (merge (precedes_by le) (listed (precedes_by le) (node i e c u)) (listed (precedes_by le) w)) (λ k. uses (node i e c u) k + uses w k) (size (node i e c u) + size w) ls₁ (get_or ls i no_link).next (Some r)
    gather_parted ls₁ r long m = record {
      first = u;
      second = m.tree;
      apart = beside (cells_of le) (laid le) law long (siblings_at (cells_of le) (laid le) {Q = Any} tt p.one) (λ k. omega (arith, p.cells k)) (λ k. omega (arith, p.stamps k, tally_first (precedes_by le) stamp_of i e c u k, tally-merge (precedes_by le) stamp_of (merge (precedes_by le) (listed (precedes_by le) w) (listed (precedes_by le) (node i e c leaf))) [] k, tally-merge (precedes_by le) stamp_of (listed (precedes_by le) w) (listed (precedes_by le) (node i e c leaf)) k, tally_lone (precedes_by le) stamp_of i e c k)) (omega (arith, p.few)) m;
      lists = ap (merge (precedes_by le) (listed (precedes_by le) u)) m.lists ∙ list_gathered (precedes_by le) stamp_of law i e c u w (λ k. omega (arith, p.stamps k));
      cells = λ k. omega (arith, m.cells k);
      counts = omega (arith, m.counts);
      others = λ k z. m.others k (omega (arith, z));
    }

  -- the loop stands at i: ls, a and b are the links, the rest and what is done so far
  module _ {Q : Tree (Entry T) → Type 0} {ls₀ ls : List Link} {es list : List (Entry T)} {own : ℕ → ℕ} {count : ℕ} {a b : Option ℕ} {i : ℕ} (p : Parted (cells_of le) Any Q ls₀ es list own count ls a b) (at : a ≡ Some i) where
    abbrev n : Node p.first i
    n = first_node (cells_of le) (laid le) law p at

    abbrev here : Apart (cells_of le) Any Q ls es (Some i) b (node i n.entry n.left n.right) p.second
    here = first_apart (cells_of le) (laid le) law p at

    pub turn_within : i < length ls
    turn_within = here.one.stored.linked.0

    extent_before : extent (cells_of le) ls es a ≡ size (node i n.entry n.left n.right)
    extent_before = extent_is (cells_of le) (laid le) (omega (arith, p.apart.few)) p.apart.one ∙ ap size n.is

    falls : {ls₁ : List Link} {a' : Option ℕ} (u : Tree (Entry T)) → size u < size (node i n.entry n.left n.right) → StoredAt (shaped (cells_of le) Any) ls₁ es a' u → extent (cells_of le) ls₁ es a' < extent (cells_of le) ls es a
    falls u less h = omega (arith, less, extent_before, extent_is (cells_of le) (laid le) {t = u} (omega (arith, less, here.few)) h)

    -- what a turn leaves
    pub record Turned (ls₁ : List Link) (a' b' : Option ℕ) : Type 0 where
      pub parted : Parted (cells_of le) Any Q ls₀ es list own count ls₁ a' b'
      pub falls : extent (cells_of le) ls₁ es a' < extent (cells_of le) ls es a

    -- the tree at i goes before what is done
    pub moved : Q (node i n.entry n.left p.second) → (ls₁ : List Link) → ls₁ ≡ set ls i (before_next (get_or ls i no_link) b) → Turned ls₁ (get_or ls i no_link).next (Some i)
    moved shape ls₁ is = subst (λ z. Turned z (get_or ls i no_link).next (Some i)) (sym is) (record {
      parted = first_back (cells_of le) (laid le) law p at (moved_first (cells_of le) (laid le) law Any Q ls es b i n.entry n.left n.right p.second here tt shape);
      falls = falls n.right (omega arith) (moved_siblings (cells_of le) (laid le) law Any Q ls es b i n.entry n.left n.right p.second here tt shape);
    })

    -- the same, where the siblings that i named are known
    pub moved_before : Q (node i n.entry n.left p.second) → (ls₁ : List Link) → ls₁ ≡ set ls i (before_next (get_or ls i no_link) b) → {o : Option ℕ} → (get_or ls i no_link).next ≡ o → Turned ls₁ o (Some i)
    moved_before shape ls₁ is next = subst (λ o. Turned ls₁ o (Some i)) next (moved shape ls₁ is)

  -- a turn of the first pass with a second tree at j
  module _ {ls₀ ls : List Link} {es list : List (Entry T)} {own : ℕ → ℕ} {count : ℕ} {a b : Option ℕ} {i : ℕ} (p : Parted (cells_of le) Any Any ls₀ es list own count ls a b) (at : a ≡ Some i) (j : ℕ) (next : (get_or ls i no_link).next ≡ Some j) where
    abbrev m : Node (n p at).right j
    m = node_at (n p at).right j (sym next ∙ ap (λ (k : Link). k.next) (here p at).one.stored.linked.1)

    abbrev there : Apart (cells_of le) Any Any ls es (Some i) b (node i (n p at).entry (n p at).left (node j m.entry m.left m.right)) p.second
    there = subst (λ z. Apart (cells_of le) Any Any ls es (Some i) b (node i (n p at).entry (n p at).left z) p.second) m.is (here p at)

    pub record PairTurn : Type 0 where
      pub within : j < length ls
      pub one : Tree (Entry T)
      pub two : Tree (Entry T)
      pub joinable : Joinable (cells_of le) ls es i j b one two p.second
      pub ends : (ls₁ : List Link) (r : ℕ) → length ls₁ ≡ length ls → Joined (cells_of le) (Before p.second) ls es one two p.second ls₁ (Some r) → Turned p at ls₁ (get_or ls j no_link).next (Some r)

    pub pair_turn : PairTurn
    pair_turn = record {
      within = there.one.stored.linked.3.0;
      one = node i (n p at).entry (n p at).left leaf;
      two = node j m.entry m.left leaf;
      joinable = pair_joinable ls es b i j (n p at).entry m.entry (n p at).left m.left m.right p.second there;
      ends = λ ls₁ r long q. record {
        parted = first_back (cells_of le) (laid le) law p at (subst (λ z. Parted (cells_of le) Any Any ls es (merge (precedes_by le) (listed (precedes_by le) (node i (n p at).entry (n p at).left z)) (listed (precedes_by le) p.second)) (λ k. uses (node i (n p at).entry (n p at).left z) k + uses p.second k) (size (node i (n p at).entry (n p at).left z) + size p.second) ls₁ (get_or ls j no_link).next (Some r)) (sym m.is) (pair_parted ls es b i j (n p at).entry m.entry (n p at).left m.left m.right p.second there ls₁ r long (built_shaped (cells_of le) {Q = Any} (λ t h. tt) q)));
        falls = falls p at m.right (omega (arith, ap size m.is)) (kept (cells_of le) long (λ k z. q.others k (omega (arith, z, there.cells k))) (siblings_at (cells_of le) (laid le) {Q = Any} tt (siblings_at (cells_of le) (laid le) {Q = Any} tt there.one)));
      };
    }

  -- a turn of the second pass, where the trees joined so far are at j
  module _ {ls₀ ls : List Link} {es list : List (Entry T)} {own : ℕ → ℕ} {count : ℕ} {a b : Option ℕ} {i : ℕ} (p : Parted (cells_of le) Any Alone ls₀ es list own count ls a b) (at : a ≡ Some i) where
    -- i is the first tree
    pub gather_first : b ≡ None → (ls₁ : List Link) → ls₁ ≡ set ls i (before_next (get_or ls i no_link) None) → Turned p at ls₁ (get_or ls i no_link).next (Some i)
    gather_first none ls₁ is = moved p at (leaf_at p.second (sym none ∙ p.apart.two.at)) ls₁ (is ∙ ap (λ o. set ls i (before_next (get_or ls i no_link) o)) (sym none))

    module _ (j : ℕ) (b-is : b ≡ Some j) where
      abbrev both : Apart (cells_of le) Any Alone ls es (Some i) (Some j) (node i (n p at).entry (n p at).left (n p at).right) p.second
      both = subst (λ o. Apart (cells_of le) Any Alone ls es (Some i) o (node i (n p at).entry (n p at).left (n p at).right) p.second) b-is (here p at)

      pub record GatherTurn : Type 0 where
        pub one : Tree (Entry T)
        pub joinable : Joinable (cells_of le) ls es j i None p.second one leaf
        pub ends : (ls₁ : List Link) (r : ℕ) → length ls₁ ≡ length ls → Joined (cells_of le) (Before leaf) ls es p.second one leaf ls₁ (Some r) → Turned p at ls₁ (get_or ls i no_link).next (Some r)

      pub gather_turn : GatherTurn
      gather_turn = record {
        one = node i (n p at).entry (n p at).left leaf;
        joinable = gather_joinable ls es i j (n p at).entry (n p at).left (n p at).right p.second both;
        ends = λ ls₁ r long q. record {
          parted = first_back (cells_of le) (laid le) law p at (gather_parted ls es i j (n p at).entry (n p at).left (n p at).right p.second both ls₁ r long (built_shaped (cells_of le) {Q = Alone} alone q));
          falls = falls p at (n p at).right (omega arith) (kept (cells_of le) long (λ k z. q.others k (omega (arith, z, (here p at).cells k))) (siblings_at (cells_of le) (laid le) {Q = Any} tt (here p at).one));
        };
      }
