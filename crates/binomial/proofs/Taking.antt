-- First and take of a binomial heap: the front entry is at the least root, and its children are melded with the other
-- trees.
use Rattle.std.proofs.Common.{◌≡◌, ℕ, ◌+◌, ◌<◌, ◌≤◌, Bool, cond, eqb, List, ◌∷◌, length, get_or, Some, Option, sym, refl, ap, ◌∙◌, subst, inl, inr, arith}
use Rattle.elements.specs.declared.entries.Entry.{Entry}
use Rattle.elements.specs.Order.{Laws, Strict, precedes_by, stamp_of}
use Rattle.elements.proofs.Strictness.{strict}
use Rattle.stores.specs.SortedLists.{merge, tally}
use Rattle.stores.proofs.Merging.{take_right, merge_first, merge_comm}
use Rattle.cells.specs.Trees.{Tree, leaf, node, root, size, uses}
use Rattle.cells.specs.Forms.{Stored, HeapAt, Built, Meldable, Melded, FrontIn, FrontTaken}
use Rattle.forests.specs.Forests.{Any, listed, shaped}
use Rattle.forests.specs.Parts.{ForestAt}
use Rattle.forests.proofs.Listing.{leads, list_lone, tally_lone}
use Rattle.forests.proofs.Parting.{reshaped, beside}
use Rattle.binomial.specs.Binomial.{trees, Falling, Children, Rising, Topped, Least, TakenOut, cells_of, no_link, binomial}
use Rattle.binomial.specs.declared.links.Link.{Link}
use Rattle.binomial.specs.Lawful.{laid}
use Rattle.binomial.proofs.LeastRoot.{least_held}

-- the least root is the front of the list
front_of : {A : Type 0} (before : A → A → Bool) (key : A → ℕ) → Strict before key → (r : ℕ) (x : A) (t : Tree A) → Least before r x t → (out : List A) × (listed before t ≡ x ∷ out)
front_of before key law r x leaf l = absurd l
front_of before key law r x (node i e c s) (inl l) = (merge before (listed before c) (listed before s), ap (λ z. merge before (z ∷ listed before c) (listed before s)) (sym l.1) ∙ merge_first before key law x (listed before c) (listed before s) (leads before x s l.2))
front_of before key law r x (node i e c s) (inr l) = let f = front_of before key law r x s l.0 in (merge before (e ∷ listed before c) f.0, ap (merge before (e ∷ listed before c)) f.1 ∙ take_right before e (listed before c) x f.0 l.1)

-- what is known of the tree that was taken out
record Top {A : Type 0} (i : ℕ) (x : A) (v : Tree A) : Type 0 where
  children : Tree A
  is : v ≡ node i x children leaf
  falling : Falling children

top : {A : Type 0} (i : ℕ) (x : A) (v : Tree A) → Some i ≡ root v → Topped x v → Top i x v
top i x leaf at h = absurd h
top i x (node j e c s) at h = let same : i ≡ j = cc in record { children = c; is = ap (λ z. node z e c s) (sym same) ∙ ap (λ z. node i z c s) h.1 ∙ ap (λ z. node i x c z) h.0; falling = h.2 }

module _ {T : Type 0} (le : T → T → Bool) (laws : Laws le) where
  -- the tree of i is out of t, and the others are u
  module _ {ls ls₁ : List Link} {es : List (Entry T)} {i : ℕ} {x : Entry T} {r : Option ℕ} (t : Tree (Entry T)) (m : TakenOut le ls es 0 i x t ls₁ r) (once : (n : ℕ) → tally stamp_of (listed (precedes_by le) t) n ≤ 1) (cells : (n : ℕ) → uses t n ≤ 1) (few : size t ≤ 4096) where
    abbrev v : Top i x m.second
    v = top i x m.second m.apart.two.at m.apart.two.stored.valid.0

    abbrev out : Stored (shaped (cells_of le) (Topped x)) ls₁ es (node i x v.children leaf)
    out = subst (Stored (shaped (cells_of le) (Topped x)) ls₁ es) v.is m.apart.two.stored

    tallied : (n : ℕ) → tally stamp_of (listed (precedes_by le) m.first) n + tally stamp_of (x ∷ listed (precedes_by le) v.children) n ≤ 1
    tallied n = omega (arith, m.apart.stamps n, ap (λ z. tally stamp_of (listed (precedes_by le) z) n) v.is, tally_lone (precedes_by le) stamp_of i x v.children n)

    sum_uses : (n : ℕ) → uses t n ≡ uses m.first n + (cond (eqb i n) 1 0 + uses v.children n)
    sum_uses n = omega (arith, m.cells n, ap (λ z. uses z n) v.is)

    sum_size : size t ≡ size m.first + (1 + size v.children)
    sum_size = omega (arith, m.counts, ap size v.is)

    list_is : listed (precedes_by le) t ≡ x ∷ merge (precedes_by le) (listed (precedes_by le) v.children) (listed (precedes_by le) m.first)
    list_is =
        sym m.lists
        ∙ ap (λ z. merge (precedes_by le) (listed (precedes_by le) m.first) z) (ap (listed (precedes_by le)) v.is ∙ list_lone (precedes_by le) i x v.children)
        ∙ merge_comm (precedes_by le) stamp_of (strict le laws) (listed (precedes_by le) m.first) (x ∷ listed (precedes_by le) v.children) tallied
        ∙ merge_first (precedes_by le) stamp_of (strict le laws) x (listed (precedes_by le) v.children) (listed (precedes_by le) m.first) (leads (precedes_by le) x m.first m.apart.one.stored.valid.0.1)

    children_at : ForestAt (cells_of le) (Children (trees v.children)) ls₁ es (get_or ls₁ i no_link).child v.children
    children_at = record {
      stored_at = record { at = ap (λ (z : Link). z.child) out.linked.1; stored = record { linked = out.linked.2; held = out.held.2; valid = ((v.falling, refl), out.valid.1.1) } };
      cells = λ n. omega (arith, cells n, sum_uses n);
      stamps = λ n. omega (arith, tallied n);
      few = omega (arith, few, sum_size);
    }

    module _ (ls₂ : List Link) (r₂ : Option ℕ) (long₂ : length ls₂ ≡ length ls₁) (n : Built (binomial le) ls₁ es (listed (precedes_by le) v.children) (uses v.children) (size v.children) ls₂ r₂) where
      others_meldable : Meldable (binomial le) ls₂ es r r₂ m.first n.tree
      others_meldable =
          let a = beside (cells_of le) (laid le) (strict le laws) long₂ (reshaped (cells_of le) {Q = Rising 0} (λ h. h.0) m.apart.one) (λ q. omega (arith, cells q, sum_uses q)) (λ q. omega (arith, tallied q)) (omega (arith, few, sum_size)) n in
          record { one = a.one; two = a.two; cells = a.cells; stamps = a.stamps; few = a.few }

  -- the heap t, whose first root is in cell f
  module _ {ls : List Link} {es : List (Entry T)} (t : Tree (Entry T)) (f : ℕ) (h : HeapAt (binomial le) ls es (Some f) t) where
    pub any_roots : ForestAt (cells_of le) Any ls es (Some f) t
    any_roots = record { stored_at = reshaped (cells_of le) {Q = Any} (λ _. tt) h.stored_at; cells = h.cells; stamps = h.stamps; few = h.few }

    -- x is at the least root, in cell i
    module _ (i : ℕ) (x : Entry T) (l : Least (precedes_by le) i x t) where
      held : (i < length es) × (x ≡ get_or es i x)
      held = least_held le (strict le laws) es x i t h.stored_at.stored.held l

      pub front : FrontIn (binomial le) es t i
      front = let b = front_of (precedes_by le) stamp_of (strict le laws) i x t l in record { within = held.0; front = x; others = b.0; held = held.1; lists = b.1 }

      -- its tree is taken out, and the others are at r
      pub record Out (ls₁ : List Link) (r : Option ℕ) : Type 0 where
        pub within : i < length ls₁
        pub degree : ℕ
        pub children : Tree (Entry T)
        pub forest : ForestAt (cells_of le) (Children degree) ls₁ es (get_or ls₁ i no_link).child children
        pub others : Tree (Entry T)
        pub meldable : (ls₂ : List Link) (r₂ : Option ℕ) → length ls₂ ≡ length ls₁ → (n : Built (binomial le) ls₁ es (listed (precedes_by le) children) (uses children) (size children) ls₂ r₂) → Meldable (binomial le) ls₂ es r r₂ others n.tree
        pub taken : (ls₂ : List Link) (r₂ : Option ℕ) (n : Built (binomial le) ls₁ es (listed (precedes_by le) children) (uses children) (size children) ls₂ r₂) (ls₃ : List Link) (r₃ : Option ℕ) → Melded (binomial le) ls₂ es others n.tree ls₃ r₃ → FrontTaken (binomial le) ls es t ls₃ i r₃

      module _ (ls₁ : List Link) (r : Option ℕ) (long : length ls₁ ≡ length ls) (m : TakenOut le ls es 0 i x t ls₁ r) where
        out_within : i < length ls₁
        out_within = (out t m h.stamps h.cells h.few).linked.0

        pub least_out : Out ls₁ r
        least_out = record {
          within = out_within;
          degree = trees (v t m h.stamps h.cells h.few).children;
          children = (v t m h.stamps h.cells h.few).children;
          forest = children_at t m h.stamps h.cells h.few;
          others = m.first;
          meldable = others_meldable t m h.stamps h.cells h.few;
          taken = λ ls₂ r₂ n ls₃ r₃ k. record {
            within = (omega (arith, out_within, long), held.0);
            front = x;
            held = held.1;
            tree = k.tree;
            stored_at = k.stored_at;
            lists =
                list_is t m h.stamps h.cells h.few
                ∙ ap (λ z. x ∷ z) (merge_comm (precedes_by le) stamp_of (strict le laws) (listed (precedes_by le) (v t m h.stamps h.cells h.few).children) (listed (precedes_by le) m.first) (λ j. omega (arith, tallied t m h.stamps h.cells h.few j)) ∙ ap (merge (precedes_by le) (listed (precedes_by le) m.first)) (sym n.lists) ∙ sym k.lists);
            cells = λ j. omega (arith, sum_uses t m h.stamps h.cells h.few j, n.cells j, k.cells j);
            counts = omega (arith, sum_size t m h.stamps h.cells h.few, n.counts, k.counts);
            others = λ j z. k.others j (omega (arith, z, sum_uses t m h.stamps h.cells h.few j, n.cells j)) ∙ n.others j (omega (arith, z, sum_uses t m h.stamps h.cells h.few j)) ∙ m.others j z;
          };
        }
