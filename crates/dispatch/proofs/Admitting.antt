-- One order more is put into queue 0.
use Rattle.std.proofs.Common.{◌≡◌, ℕ, ◌+◌, ◌<◌, ◌≤◌, Bool, true, List, [], ◌∷◌, ◌++◌, length, get_or, take, is_ok, Ok, Err, Result, sym, refl, ap, ◌∙◌, subst}
use Rattle.std.proofs.lemmas.List.{take_more, take_all}
use Rattle.stores.specs.declared.refusals.Refusal.{Refusal}
use Rattle.stores.specs.Meaning.{Meaning}
use Rattle.stores.specs.Calls.{put_answer, put_after}
use Rattle.stores.specs.Promises.{Puts}
use Rattle.dispatch.specs.Dispatching.{after_put, after_puts, Accepted, Admitted, Admits}

module _ {T : Type 0} (le : T → T → Bool) where
  after_puts_push : (m : Meaning T) (xs : List T) (x : T) → after_puts le m (xs ++ x ∷ []) ≡ after_put le (after_puts le m xs) x
  after_puts_push m [] x = refl
  after_puts_push m (y ∷ xs) x = after_puts_push (after_put le m y) xs x

  accepted_push : (m : Meaning T) (xs : List T) (x : T) → Accepted le m xs → is_ok (put_answer (after_puts le m xs) 0) ≡ true → Accepted le m (xs ++ x ∷ [])
  accepted_push m [] x a e = (e, tt)
  accepted_push m (y ∷ xs) x a e = (a.0, accepted_push (after_put le m y) xs x a.1 e)

  -- what a put leaves is told by its promise
  put_is : (m n : Meaning T) (x : T) (r : Result ℕ Refusal) → Puts le m 0 x r n → n ≡ after_put le m x
  put_is m n x r p =
      let s : n.state ≡ put_after le m.state 0 x (put_answer m 0) = p.after ∙ ap (put_after le m.state 0 x) p.answer in
      λ j. record { state = s j; fixed = p.fixed j; held = p.held j }

  pub admitted_none : (m : Meaning T) → Admitted le m [] m
  admitted_none m = record { accepted = tt; after = refl; formed = λ f. f }

  pub admitted_all : (m n : Meaning T) (xs : List T) (i : ℕ) → length xs ≤ i → Admitted le m (take i xs) n → Admitted le m xs n
  admitted_all m n xs i l = subst (λ ys. Admitted le m ys n) (take_all i xs l)

  module _ (m n o : Meaning T) (xs : List T) (i : ℕ) (d : T) (here : i < length xs) (so_far : Admitted le m (take i xs) n) where
    pub admitted_more : (k : ℕ) → Puts le n 0 (get_or xs i d) (Ok k) o → Admitted le m (take (i + 1) xs) o
    admitted_more k p =
        let ys = take i xs in
        let x = get_or xs i d in
        let ok : is_ok (put_answer (after_puts le m ys) 0) ≡ true = sym (ap (λ q. is_ok (put_answer q 0)) so_far.after) ∙ sym (ap is_ok p.answer) in
        subst (λ zs. Admitted le m zs o) (sym (take_more xs i d here)) (record {
          accepted = accepted_push m ys x so_far.accepted ok;
          after = put_is n o x (Ok k) p ∙ ap (λ q. after_put le q x) so_far.after ∙ sym (after_puts_push m ys x);
          formed = λ _. p.formed;
        })

    -- the put of the next one is refused, and leaves what was
    pub rejected : (f : Refusal) → Puts le n 0 (get_or xs i d) (Err f) o → o ≡ n → Admits le m xs (Err (record { index = i; refusal = f })) o
    rejected f p e =
        (here, subst (Admitted le m (take i xs)) (sym e) so_far, p.answer ∙ ap (λ q. put_answer q 0) (sym e))
