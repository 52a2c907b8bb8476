-- Trees in slices: what a write elsewhere leaves, and what is read back.
use Rattle.std.proofs.Common.{◌≡◌, ℕ, zero, suc, ◌+◌, ◌<◌, ◌≤◌, List, [], ◌∷◌, length, get_or, drop, set, IfSome, Some, None, Option, sym, refl, ap, ◌∙◌, arith}
use Rattle.std.proofs.lemmas.List.{drop_more, get_or-set_other, get_or_default, length-set}
use Rattle.std.proofs.lemmas.Bool.Decides.{nat_tests}
use Rattle.cells.specs.Trees.{Tree, leaf, node, root, size, uses, Held, Linked, tree_at}

-- a tree stays where its cells stay
pub framed : {A K : Type 0} (link : Tree A → Tree A → K) (none : K) (ls ls' : List K) (t : Tree A) → length ls ≤ length ls' → ((k : ℕ) → 0 < uses t k → get_or ls' k none ≡ get_or ls k none) → Linked link none ls t → Linked link none ls' t
framed link none ls ls' leaf long same h = tt
framed link none ls ls' (node i e l r) long same h =
    (omega (arith, h.0), same i (grind (arith, nat_tests)) ∙ h.1, framed link none ls ls' l long (λ k u. same k (omega arith)) h.2, framed link none ls ls' r long (λ k u. same k (omega arith)) h.3)

-- a tree's root is a cell
pub root_within : {A K : Type 0} (link : Tree A → Tree A → K) (none : K) (ls : List K) (t : Tree A) → Linked link none ls t → IfSome (root t) (λ i. i < length ls)
root_within link none ls leaf h = tt
root_within link none ls (node i e l r) h = h.0

-- what a tree holds stays where its cells stay
pub held_framed : {A : Type 0} (es es' : List A) (t : Tree A) → length es ≤ length es' → ((k : ℕ) (d : A) → 0 < uses t k → get_or es' k d ≡ get_or es k d) → Held es t → Held es' t
held_framed es es' leaf long same h = tt
held_framed es es' (node i e l r) long same h =
    (omega (arith, h.0), h.1 ∙ sym (same i e (grind (arith, nat_tests))), held_framed es es' l long (λ k d u. same k d (omega arith)) h.2, held_framed es es' r long (λ k d u. same k d (omega arith)) h.3)

-- a tree that lies in the slices is what is read there
pub read_back : {A K : Type 0} (left right : K → Option ℕ) (link : Tree A → Tree A → K) (none : K) → ((l r : Tree A) → left (link l r) ≡ root l) → ((l r : Tree A) → right (link l r) ≡ root r) → (ls : List K) (es : List A) (n : ℕ) (t : Tree A) → size t ≤ n → Linked link none ls t → Held es t → tree_at left right none ls es n (root t) ≡ t
read_back left right link none hl hr ls es zero leaf few h k = refl
read_back left right link none hl hr ls es (suc n) leaf few h k = refl
read_back left right link none hl hr ls es zero (node i e l r) few h k = absurd (omega arith)
read_back {A} left right link none hl hr ls es (suc n) (node i e l r) few h k =
    let found : drop i es ≡ e ∷ drop (i + 1) es = drop_more es i e k.0 ∙ ap (λ x. x ∷ drop (i + 1) es) (sym k.1) in
    ap (λ xs. elim xs as (λ _. Tree A) [ [] ↦ leaf | x ∷ _ ↦ node i x (tree_at left right none ls es n (left (get_or ls i none))) (tree_at left right none ls es n (right (get_or ls i none))) ]) found
    ∙ ap (λ q. node i e (tree_at left right none ls es n q) (tree_at left right none ls es n (right (get_or ls i none)))) (ap left h.1 ∙ hl l r)
    ∙ ap (λ q. node i e (tree_at left right none ls es n (root l)) (tree_at left right none ls es n q)) (ap right h.1 ∙ hr l r)
    ∙ ap (λ q. node i e q (tree_at left right none ls es n (root r))) (read_back left right link none hl hr ls es n l (omega arith) h.2 k.2)
    ∙ ap (λ q. node i e l q) (read_back left right link none hl hr ls es n r (omega arith) h.3 k.3)

-- what is known of a tree once its root is
pub record Node {A : Type 0} (t : Tree A) (i : ℕ) : Type 0 where
  pub entry : A
  pub left : Tree A
  pub right : Tree A
  pub is : t ≡ node i entry left right

pub node_at : {A : Type 0} (t : Tree A) (i : ℕ) → Some i ≡ root t → Node t i
node_at leaf i h = let z : ◌≡◌ {A = ℕ} 0 1 = cc in absurd (omega arith)
node_at (node j e l r) i h = let same : i ≡ j = cc in record { entry = e; left = l; right = r; is = ap (λ x. node x e l r) (sym same) }

pub leaf_at : {A : Type 0} (t : Tree A) → None ≡ root t → t ≡ leaf
leaf_at leaf h = refl
leaf_at (node i e l r) h = let z : ◌≡◌ {A = ℕ} 0 1 = cc in absurd (omega arith)

-- x, read at i, is what the tree has there
pub read_same : {A : Type 0} (es : List A) (i : ℕ) (x e : A) → i < length es → x ≡ get_or es i x → e ≡ get_or es i e → x ≡ e
read_same es i x e within hx he = hx ∙ get_or_default es i x e within ∙ sym he

-- a write to another cell
pub set_framed : {A K : Type 0} (link : Tree A → Tree A → K) (none : K) (ls : List K) (t : Tree A) (i : ℕ) (v : K) → uses t i ≡ 0 → Linked link none ls t → Linked link none (set ls i v) t
set_framed link none ls t i v z h = framed link none ls (set ls i v) t (omega (arith, length-set ls i v)) (λ k u. get_or-set_other ls i k v none (λ same. omega (arith, z, u, ap (uses t) same))) h
