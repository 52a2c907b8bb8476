-- A take whose answer is looked at as the front alone.
use Rattle.std.proofs.Common.{◌≡◌, ℕ, ◌<◌, Bool, Ok, Option, Result, sym, refl, ap, ◌∙◌, subst}
use Rattle.std.specs.Option.{option_flatten}
use Rattle.std.specs.Result.{result_ok}
use Rattle.elements.specs.declared.entries.Entry.{Entry}
use Rattle.stores.specs.declared.refusals.Refusal.{Refusal}
use Rattle.stores.specs.Meaning.{Meaning, list_of}
use Rattle.stores.specs.Calls.{front}
use Rattle.stores.specs.Promises.{Takes}
use Rattle.stores.proofs.Answering.{first_told}

module _ {T : Type 0} (le : T → T → Bool) (m n : Meaning T) (q : ℕ) (r : Result (Option (Entry T)) Refusal) (lt : q < 32) (p : Takes le m q r n) where
  answered : r ≡ Ok (front (list_of m.state q))
  answered = p.answer ∙ sym (first_told m.state q (front (list_of m.state q)) lt refl)

  -- a queue that exists is never refused
  pub took_front : (u : Option (Option (Entry T))) (o v : Option (Entry T)) → u ≡ result_ok r → v ≡ option_flatten u → v ≡ o → Takes le m q (Ok o) n
  took_front u o v a b e =
      let front_is : front (list_of m.state q) ≡ o = sym (ap (λ x. option_flatten (result_ok x)) answered) ∙ sym (ap option_flatten a) ∙ sym b ∙ e in
      subst (λ x. Takes le m q x n) (answered ∙ ap Ok front_is) p
