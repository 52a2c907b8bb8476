-- A call that the heap refuses, and a take that finds nothing, leave the layer as it was.
use Rattle.std.proofs.Common.{◌≡◌, ℕ, Bool, List, None, Ok, Err, sum_by, Option, sym, ap, ◌∙◌, subst}
use Rattle.elements.specs.declared.entries.Entry.{Entry}
use Rattle.elements.specs.Order.{Strict, precedes_by, stamp_of}
use Rattle.stores.specs.declared.refusals.Refusal.{Refusal}
use Rattle.stores.specs.Meaning.{Meaning}
use Rattle.stores.specs.Calls.{take_after}
use Rattle.stores.specs.Promises.{Puts, Takes, Melds}
use Rattle.stores.proofs.Answering.{puts_refused, takes_refused, takes_none, melds_refused}
use Rattle.cancelled.specs.Cancelled.{cancelled, lazily, lazily_state, lazily_fixed, Over}
use Rattle.cancelled.proofs.Layer.{formed_lazily, first_lazily, put_answer_lazily, meld_refused_lazily}

module _ {T : Type 0} {le : T → T → Bool} {B : Type 0} (marks counts : List ℕ) (h : ℕ) (m : Meaning T) (o : Over le B marks counts h m) (n : Meaning T) where
  same_meaning : n.fixed ≡ m.fixed → n.state ≡ m.state → lazily marks m ≡ lazily marks n
  same_meaning fixed same = λ j. record { state = lazily_state marks (sym same j); fixed = lazily_fixed (sym fixed j); held = sum_by (cancelled marks) (sym same j).lists }

  pub nothing_taken : (q : ℕ) (f : Option (Entry T)) → f ≡ None → Takes le m q (Ok f) n → n.state ≡ m.state
  nothing_taken q f is e = e.after ∙ ap (λ g. take_after m.state q (Ok g)) is

  module _ (law : Strict (precedes_by le) stamp_of) where
    pub puts_refused_lazily : (q : ℕ) (x : T) (f : Refusal) → Puts le m q x (Err f) n → Puts le (lazily marks m) q x (Err f) (lazily marks n)
    puts_refused_lazily q x f e = subst (Puts le (lazily marks m) q x (Err f)) (same_meaning e.fixed e.after) (puts_refused (formed_lazily marks counts h m o law) q x f (e.answer ∙ put_answer_lazily marks counts h m o q))

    pub takes_refused_lazily : (q : ℕ) (f : Refusal) → Takes le m q (Err f) n → Takes le (lazily marks m) q (Err f) (lazily marks n)
    takes_refused_lazily q f e = subst (Takes le (lazily marks m) q (Err f)) (same_meaning e.fixed e.after) (takes_refused (formed_lazily marks counts h m o law) q f (e.answer ∙ first_lazily marks counts h m o q))

    pub takes_none_lazily : (q : ℕ) (f : Option (Entry T)) → f ≡ None → Takes le m q (Ok f) n → Takes le (lazily marks m) q (Ok None) (lazily marks n)
    takes_none_lazily q f is e = subst (Takes le (lazily marks m) q (Ok None)) (same_meaning e.fixed (nothing_taken q f is e)) (takes_none (formed_lazily marks counts h m o law) q (ap Ok (sym is) ∙ e.answer ∙ first_lazily marks counts h m o q))

    pub melds_refused_lazily : (a b : ℕ) (f : Refusal) → Melds le m a b (Err f) n → Melds le (lazily marks m) a b (Err f) (lazily marks n)
    melds_refused_lazily a b f e = subst (Melds le (lazily marks m) a b (Err f)) (same_meaning e.fixed e.after) (melds_refused (formed_lazily marks counts h m o law) a b f (meld_refused_lazily marks counts h m o a b f e.answer))
