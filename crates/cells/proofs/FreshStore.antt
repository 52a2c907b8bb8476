-- A fresh store, for any form of heap: 32 empty queues, every cell idle.
use Rattle.std.proofs.Common.{◌≡◌, ℕ, zero, suc, List, [], ◌∷◌, map, length, replicate, sum_by, Option, refl, ap, ◌∙◌, arith, Bool}
use Rattle.std.proofs.lemmas.List.Sums.{sum_by-cons}
use Rattle.std.specs.List.{AllByRecursion}
use Rattle.elements.specs.declared.entries.Entry.{Entry}
use Rattle.elements.specs.Order.{stamp_of}
use Rattle.stores.specs.SortedLists.{tally}
use Rattle.stores.specs.Meaning.{Sizes, fresh_bare, bare_fixed}
use Rattle.cells.specs.Trees.{Tree, leaf, size, uses}
use Rattle.cells.specs.IdleCells.{IdleFrom}
use Rattle.cells.specs.Forms.{Form, Stored}
use Rattle.cells.specs.Lawful.{Lawful}
use Rattle.cells.specs.Queues.{Sound, lists, fresh_heads}
use Rattle.cells.specs.declared.heads.Heads.{Heads}
use Rattle.cells.proofs.Soundness.{leaf_stored, lists_are}
use Rattle.cells.proofs.Changing.{Done, done_by}

all_alike : {A : Type 0} (P : A → Type 0) (a : A) (n : ℕ) → P a → AllByRecursion P (replicate n a)
all_alike P a zero h = tt
all_alike P a (suc n) h = (h, all_alike P a n h)

map_alike : {A B : Type 0} (f : A → B) (x : A) (y : B) → f x ≡ y → (n : ℕ) → map f (replicate n x) ≡ replicate n y
map_alike f x y e zero = refl
map_alike f x y e (suc n) = λ i. e i ∷ map_alike f x y e n i

sum_none : {A : Type 0} (f : A → ℕ) (x : A) → f x ≡ 0 → (n : ℕ) → sum_by f (replicate n x) ≡ 0
sum_none f x z zero = refl
sum_none f x z (suc n) = omega (arith, sum_by-cons f x (replicate n x), z, sum_none f x z n)

module _ {T K : Type 0} {le : T → T → Bool} (F : Form le K) (lawful : Lawful F) (ls : List K) (es : List (Entry T)) (free : Option ℕ) (cells stamps : ℕ) (sizes : Sizes cells stamps) (long : length ls ≡ cells) (wide : length es ≡ cells) (idle : IdleFrom F.none F.idle ls free 0) where
  fresh_sound : Sound F (fresh_heads free stamps) ls es
  fresh_sound = record {
    trees = replicate 32 leaf;
    idle = idle.cells;
    many = refl;
    queues = refl;
    stored = all_alike (Stored F ls es) leaf 32 (leaf_stored F lawful);
    free = idle.at;
    chained = idle.chained;
    cells = λ k. omega (arith, idle.once k, sum_none (λ (t : Tree (Entry T)). uses t k) leaf refl 32);
    total = omega (arith, idle.count, sum_none (size {A = Entry T}) leaf refl 32);
    long = omega (arith, long, wide);
    stamps = λ k. omega (arith, sum_none (λ (t : Tree (Entry T)). tally stamp_of (F.list t) k) leaf (ap (λ x. tally stamp_of x k) lawful.list_leaf) 32);
    issued = omega arith;
    sizes = record { some_cells = omega (arith, long, sizes.some_cells); few_cells = omega (arith, long, sizes.few_cells); some_stamps = sizes.some_stamps; few_stamps = sizes.few_stamps };
  }

  fresh_lists : lists F (fresh_heads free stamps) ls es ≡ replicate 32 []
  unfolding fresh_sound
  fresh_lists = lists_are F lawful fresh_sound ∙ map_alike F.list leaf [] lawful.list_leaf 32

  pub fresh_store : (h : Heads) → h ≡ fresh_heads free stamps → Done F (λ m. m ≡ fresh_bare cells stamps) h ls es
  fresh_store h e = done_by F (λ m. m ≡ fresh_bare cells stamps) e refl (record { sound = fresh_sound; effect = λ j. record { state = record { lists = fresh_lists j; next = 0 }; fixed = bare_fixed (long j) stamps; held = 0 } })
