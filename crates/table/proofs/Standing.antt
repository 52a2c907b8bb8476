-- What a sound table stands for: its questions are answered, and a new one is empty.
use Rattle.std.proofs.Common.{◌≡◌, ℕ, ◌<◌, Bool, List, length, replicate, Some, None, Ok, Option, option_map, sym, ap, ◌∙◌, subst, arith}
use Rattle.std.specs.List.{AllByRecursion}
use Rattle.std.proofs.lemmas.List.{length-replicate}
use Rattle.elements.specs.declared.entries.Entry.{Entry}
use Rattle.stores.specs.Meaning.{Sizes, bare_fixed, fresh_bare}
use Rattle.stores.specs.Calls.{front, first_answer, count_answer}
use Rattle.stores.proofs.Answering.{first_told, count_told}
use Rattle.records.specs.Cells.{Cell, Numbered, lists_of, queued, stamped, FrontAt}
use Rattle.records.specs.Whole.{meant, Sound}
use Rattle.records.proofs.Counts.{stamped_clear, numbered_clear}
use Rattle.records.proofs.Queues.{length_queue}
use Rattle.records.proofs.Lists.{list_is, lists_clear}
use Rattle.table.specs.Tables.{Fit}

module _ {T : Type 0} {cs : List (Cell T)} {next stamps : ℕ} (h : Sound cs next stamps) (le : T → T → Bool) (q : ℕ) (near : q < 32) where
  -- the front entry, where it was found with its cell
  pub first_here : (found : Option (ℕ × Entry T)) → FrontAt le q cs found → Ok (option_map (λ p. p.1) found) ≡ first_answer (meant le cs next stamps).state q
  first_here None e = first_told (meant le cs next stamps).state q None near (sym (ap front (list_is le cs q near ∙ e)))
  first_here (Some (i, e)) at = first_told (meant le cs next stamps).state q (Some e) near (sym (ap front (list_is le cs q near) ∙ at.0))

  pub count_here : (n : ℕ) → n ≡ queued q cs → Ok n ≡ count_answer (meant le cs next stamps).state q
  count_here n e = count_told (meant le cs next stamps).state q n near (e ∙ sym (ap length (list_is le cs q near) ∙ length_queue le q cs))

-- a table with no entries
module _ {T : Type 0} (n cells stamps : ℕ) (cs : List (Cell T)) (fit : Fit n cells stamps) (clear : cs ≡ replicate n None) where
  made_long : length cs ≡ cells
  made_long = ap length clear ∙ length-replicate n None ∙ fit.same

  pub made_sound : Sound cs 0 stamps
  made_sound = record {
    sizes = subst (λ m. Sizes m stamps) (sym made_long) fit.sizes;
    issued = omega arith;
    numbered = subst (AllByRecursion Numbered) (sym clear) (numbered_clear T n);
    marked = λ k. omega (arith, ap (stamped k) clear, stamped_clear T k n);
  }

  pub made_fresh : (le : T → T → Bool) → meant le cs 0 stamps ≡ fresh_bare cells stamps
  made_fresh le = λ j. record { state = record { lists = (ap (lists_of le) clear ∙ lists_clear le n) j; next = 0 }; fixed = bare_fixed (made_long j) stamps; held = 0 }
