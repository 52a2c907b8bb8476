-- The layer at rest: its meaning is well-formed, and its questions are answered by the marks, the counts and the heap.
use Rattle.std.proofs.Common.{◌≡◌, ℕ, ◌+◌, ◌≤◌, Bool, cond, ◌||◌, eqb, leb, ◌≢◌, List, [], ◌∷◌, map, length, get_or, Ok, Err, sum_by, sym, refl, ap, ◌∙◌, inl, inr, arith}
use Rattle.std.specs.List.{AllByRecursion}
use Rattle.std.proofs.ByRecursion.{All-weaker}
use Rattle.std.proofs.lemmas.List.{length-map}
use Rattle.std.proofs.lemmas.List.Sums.{sum_by-cons}
use Rattle.std.proofs.lemmas.Bool.{cond-true, cond-false, cases_Bool}
use Rattle.elements.specs.declared.entries.Entry.{Entry}
use Rattle.elements.specs.Order.{Strict, precedes_by, stamp_of}
use Rattle.stores.specs.declared.refusals.Refusal.{Refusal}
use Rattle.stores.specs.declared.refusals.Refusal.TheVariants.{QueueNumber}
use Rattle.stores.specs.SortedLists.{tally, Sorted}
use Rattle.stores.specs.Meaning.{Pair, Fixed, Meaning, WellFormed, list_of, count_of, live, limits_of}
use Rattle.stores.specs.Calls.{put_answer, front, first_answer, meld_answer}
use Rattle.stores.specs.Promises.{Bare}
use Rattle.cancelled.specs.Cancelled.{kept, lazily, Front, Marked, Over}
use Rattle.cancelled.proofs.Keeping.{tally_kept, front_kept}
use Rattle.cancelled.proofs.Joining.{kept_sorted}
use Rattle.cancelled.proofs.Places.{all_at, map_at, sum_at, sum_two, replicate_at}
use Rattle.cancelled.proofs.Marking.{kept_at, live_parted, all_empty}

sorted_all : {T : Type 0} (before : Entry T → Entry T → Bool) (law : Strict before stamp_of) (marks : List ℕ) (xss : List (List (Entry T))) → AllByRecursion (Sorted before) xss → AllByRecursion (Sorted before) (map (kept marks) xss)
sorted_all before law marks [] a = tt
sorted_all before law marks (xs ∷ xss) a = (kept_sorted before law marks xs a.0, sorted_all before law marks xss a.1)

sum_kept : {T : Type 0} (marks : List ℕ) (xss : List (List (Entry T))) (k : ℕ) → sum_by (λ xs. tally stamp_of xs k) (map (kept marks) xss) ≤ sum_by (λ xs. tally stamp_of xs k) xss
sum_kept marks [] k = omega arith
sum_kept marks (xs ∷ xss) k = omega (arith, sum_by-cons (λ ys. tally stamp_of ys k) xs xss, sum_by-cons (λ ys. tally stamp_of ys k) (kept marks xs) (map (kept marks) xss), tally_kept marks xs k, sum_kept marks xss k)

module _ {T : Type 0} {le : T → T → Bool} {B : Type 0} (marks counts : List ℕ) (h : ℕ) (m : Meaning T) (o : Over le B marks counts h m) where
  pub formed_lazily : Strict (precedes_by le) stamp_of → WellFormed le (lazily marks m)
  formed_lazily law =
      let f = o.formed in
      let parted = live_parted marks m.state.lists in
      record {
        queues = length-map m.state.lists (kept marks) ∙ f.queues;
        sorted = sorted_all (precedes_by le) law marks m.state.lists f.sorted;
        stamps = λ k. omega (arith, sum_kept marks m.state.lists k, f.stamps k);
        issued = f.issued;
        stored = omega (arith, f.stored, o.bare.held);
        idle = λ e. omega (arith, all_empty marks m.state.lists o.marked.fronts e);
        limited = f.limited;
        heights = All-weaker _ _ (λ ps a. All-weaker _ _ (λ (p : Pair) (b : p.height ≤ m.fixed.height). omega (arith, b)) ps a) m.fixed.pairs f.heights;
        sizes = f.sizes;
        low = omega (arith, o.above, o.low);
      }

  -- the layer after a call, by what the call kept below and what it made of the marks
  pub over_next : {C : Type 0} (marks' counts' : List ℕ) (n : Meaning T) → C → WellFormed le n → Bare n → n.fixed ≡ m.fixed → Marked marks' counts' n.state.lists → Over le C marks' counts' h n
  over_next marks' counts' n c f b fixed k = record {
    below = c;
    formed = f;
    bare = b;
    above = o.above ∙ ap (λ (x : Fixed). x.height + 1) (sym fixed);
    low = o.low;
    marked = k;
  }

  pub queues_kept : length (map (kept marks) m.state.lists) ≡ 32
  queues_kept = length-map m.state.lists (kept marks) ∙ o.formed.queues

  pub counts_at : (q : ℕ) → get_or counts q 0 ≡ count_of (lazily marks m).state q
  counts_at q = ap (λ l. get_or l q 0) o.marked.counted ∙ map_at length [] 0 refl (map (kept marks) m.state.lists) q

  live_few : sum_by length (map (kept marks) m.state.lists) ≤ 4096
  live_few = omega (arith, live_parted marks m.state.lists, o.formed.stored, o.formed.sizes.few_cells)

  pub count_few : (a : ℕ) → get_or counts a 0 ≤ 4096
  count_few a = omega (arith, counts_at a, live_few, sum_at length [] refl (map (kept marks) m.state.lists) a)

  pub counts_few : (a b : ℕ) → a ≢ b → get_or counts a 0 + get_or counts b 0 ≤ 4096
  counts_few a b ne = omega (arith, counts_at a, counts_at b, live_few, sum_two length [] refl (map (kept marks) m.state.lists) a b ne)

  pub front_at : (q : ℕ) → Front marks (list_of m.state q)
  front_at q = all_at (Front marks) [] tt m.state.lists q o.marked.fronts

  pub first_lazily : (q : ℕ) → first_answer m.state q ≡ first_answer (lazily marks m).state q
  first_lazily q = ap (λ f. cond (leb 32 q) (Err QueueNumber) (Ok f)) (sym (ap front (kept_at marks m.state.lists q) ∙ front_kept marks (list_of m.state q) (front_at q)))

  no_limits : (q : ℕ) → limits_of m.fixed q ≡ []
  no_limits q = ap (λ f. limits_of f q) o.bare.fixed ∙ replicate_at 32 [] q

  pub put_answer_lazily : (q : ℕ) → put_answer m q ≡ put_answer (lazily marks m) q
  put_answer_lazily q =
      let e : live m.state + m.held ≡ live (lazily marks m).state + (lazily marks m).held = omega (arith, live_parted marks m.state.lists, o.bare.held) in
      rw (no_limits q, e)

  -- a meld is refused by the numbers alone
  pub meld_refused_lazily : (a b : ℕ) (f : Refusal) → Err f ≡ meld_answer m.state a b → Err f ≡ meld_answer (lazily marks m).state a b
  meld_refused_lazily a b f is =
      elim (cases_Bool (leb 32 a || leb 32 b)) [
        | inl far ↦ is ∙ cond-true (leb 32 a || leb 32 b) _ _ far ∙ sym (cond-true (leb 32 a || leb 32 b) _ _ far)
        | inr near ↦
            elim (cases_Bool (eqb a b)) [
              | inl same ↦ is ∙ cond-false (leb 32 a || leb 32 b) _ _ near ∙ cond-true (eqb a b) _ _ same ∙ sym (cond-false (leb 32 a || leb 32 b) _ _ near ∙ cond-true (eqb a b) _ _ same)
              | inr apart ↦
                  let k = is ∙ cond-false (leb 32 a || leb 32 b) _ _ near ∙ cond-false (eqb a b) _ _ apart in
                  absurd (let z : ◌≡◌ {A = ℕ} 0 1 = cc in omega arith)
            ]
      ]
