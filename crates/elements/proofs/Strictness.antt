-- Entries are strictly ordered wherever their elements keep the laws, and their stamps tell them apart.
use Rattle.std.proofs.Common.{◌≡◌, ◌≤◌, Bool, true, false, ◌⊎◌, inl, inr, arith}
use Rattle.std.proofs.lemmas.Bool.{cases_Bool}
use Rattle.std.proofs.lemmas.Bool.Decides.{nat_tests}
use Rattle.elements.specs.Order.{Laws, Reflexive, Strict, precedes_by, stamp_of}
use Rattle.elements.specs.declared.entries.Entry.{Entry}

module _ {T : Type 0} (le : T → T → Bool) (laws : Laws le) where
  either : (x y : T) → (le x y ≡ true) ⊎ (le y x ≡ true)
  either x y = elim (cases_Bool (le x y)) [ inl a ↦ inl a | inr a ↦ inr (laws.total x y a) ]

  pub reflexive : Reflexive le
  reflexive x = elim (either x x) [ inl a ↦ a | inr a ↦ a ]

  -- what it means that x does not precede y
  behind : (x y : Entry T) → precedes_by le x y ≡ false → (le y.element x.element ≡ true) × ((le x.element y.element ≡ true) → y.stamp ≤ x.stamp)
  behind x y h = (grind (arith, nat_tests), λ e. grind (arith, nat_tests))

  pub strict : Strict (precedes_by le) stamp_of
  strict = record {
    irreflexive = λ x. grind (arith, nat_tests, reflexive x.element);
    asymmetric = λ x y h. grind (arith, nat_tests, either x.element y.element);
    transitive = λ x y z h k. grind (arith, nat_tests, either x.element y.element, either y.element z.element, laws.transitive x.element y.element z.element, laws.transitive y.element z.element x.element, laws.transitive z.element x.element y.element);
    negatively_transitive = λ x y z h k. let p = behind x y h in let q = behind y z k in grind (arith, nat_tests, p.0, p.1, q.0, q.1, laws.transitive z.element y.element x.element, laws.transitive x.element z.element y.element, laws.transitive y.element x.element z.element);
    total = λ x y ne h. grind (arith, nat_tests, either x.element y.element);
  }
