-- The layer over a heap with nothing put yet.
use Rattle.std.proofs.Common.{◌≡◌, ℕ, zero, suc, ◌+◌, Bool, cond, eqb, List, [], ◌∷◌, map, length, get_or, replicate, sum_by, sym, refl, ap, ◌∙◌, subst, arith}
use Rattle.std.specs.List.{AllByRecursion}
use Rattle.std.proofs.lemmas.List.{length-replicate}
use Rattle.std.proofs.lemmas.List.Sums.{sum_by-cons}
use Rattle.std.proofs.lemmas.Bool.{ne_eqb}
use Rattle.elements.specs.declared.entries.Entry.{Entry}
use Rattle.elements.specs.Order.{stamp_of}
use Rattle.stores.specs.SortedLists.{tally}
use Rattle.stores.specs.Meaning.{Meaning, WellFormed}
use Rattle.stores.specs.Promises.{Bare}
use Rattle.stores.proofs.Unused.{no_entries}
use Rattle.cancelled.specs.Cancelled.{kept, cancelled, lazily, lazily_fixed, fresh_lazily, Front, Over, Fit}
use Rattle.cancelled.proofs.Keeping.{kept_nil}
use Rattle.cancelled.proofs.Places.{replicate_at}

module _ (T : Type 0) where
  lengths_none : (n : ℕ) → replicate n 0 ≡ map length (replicate {A = List (Entry T)} n [])
  lengths_none zero = refl
  lengths_none (suc n) = ap (λ l. 0 ∷ l) (lengths_none n)

  fronts_none : (marks : List ℕ) (n : ℕ) → AllByRecursion (Front {T = T} marks) (replicate n [])
  fronts_none marks zero = tt
  fronts_none marks (suc n) = (tt, fronts_none marks n)

  none_cancelled : (marks : List ℕ) (n : ℕ) → sum_by (cancelled {T = T} marks) (replicate n []) ≡ 0
  unfolding cancelled
  none_cancelled marks zero = refl
  none_cancelled marks (suc n) = omega (arith, sum_by-cons (cancelled {T = T} marks) [] (replicate n []), none_cancelled marks n)

module _ {T : Type 0} where
  kept_none : (marks : List ℕ) (n : ℕ) → map (kept {T = T} marks) (replicate n []) ≡ replicate n []
  kept_none marks zero = refl
  kept_none marks (suc n) = ap (λ l. l ∷ map (kept marks) (replicate n [])) (kept_nil marks) ∙ ap (λ l. [] ∷ l) (kept_none marks n)

  module _ {le : T → T → Bool} (m : Meaning T) (f : WellFormed le m) (b : Bare m) (fit : Fit m) (marks counts : List ℕ) (h : ℕ) (em : marks ≡ replicate 32768 0) (ec : counts ≡ replicate 32 0) (eh : h ≡ m.fixed.height + 1) where
    blank_at : (k : ℕ) → get_or marks k 0 ≡ 0
    blank_at k = ap (λ l. get_or l k 0) em ∙ replicate_at 32768 0 k

    kept_lists : map (kept marks) m.state.lists ≡ replicate 32 []
    kept_lists = ap (map (kept marks)) (no_entries m f fit.unused) ∙ kept_none marks 32

    pub made_over : {B : Type 0} → B → Over le B marks counts h m
    made_over s = record {
      below = s;
      formed = f;
      bare = b;
      above = eh;
      low = omega (arith, eh, fit.low);
      marked = record {
        places = ap length em ∙ length-replicate {A = ℕ} 32768 0;
        within = λ k. omega (arith, blank_at k);
        counted = ec ∙ lengths_none T 32 ∙ ap (map length) (sym kept_lists);
        tied = λ q k near. ap (λ l. tally stamp_of (get_or l q []) k) kept_lists ∙ ap (λ l. tally stamp_of l k) (replicate_at 32 [] q) ∙ sym (ap (λ v. cond (eqb v (q + 1)) 1 0) (blank_at k) ∙ ap (λ v. cond v 1 0) (ne_eqb 0 (q + 1) (λ z. omega (arith, z))));
        fronts = subst (AllByRecursion (Front marks)) (sym (no_entries m f fit.unused)) (fronts_none T marks 32);
      };
    }

    pub made_meaning : lazily marks m ≡ fresh_lazily m.fixed
    made_meaning =
        let held : sum_by (cancelled marks) m.state.lists ≡ 0 = ap (sum_by (cancelled marks)) (no_entries m f fit.unused) ∙ none_cancelled T marks 32 in
        let next = fit.unused in
        λ j. record { state = record { lists = kept_lists j; next = next j }; fixed = lazily_fixed m.fixed; held = held j }
