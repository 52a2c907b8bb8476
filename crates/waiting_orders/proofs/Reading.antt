-- A line of three numerals in range is the line of one order, and no line is read in two ways.
use Rattle.std.proofs.Common.{◌≡◌, ℕ, ◌≤◌, List, [], ◌∷◌, map, get_or, Ok, Err, decimal, Result, sym, refl, ap, ◌∙◌, subst, arith}
use Rattle.elements.specs.declared.lines.LineEntry.{LineEntry}
use Rattle.scanner.specs.Numerals.{value, told}
use Rattle.scanner.specs.Templates.{fill, Filled}
use Rattle.scanner.proofs.Digits.{printed_numeral, printed_value, numerals_printed}
use Rattle.scanner.proofs.Filling.{filled_once}
use Rattle.waiting_orders.specs.declared.Unreadable.{Unreadable}
use Rattle.waiting_orders.specs.declared.Unreadable.TheVariants.{Malformed, OutOfRange}
use Rattle.waiting_orders.specs.Forms.{order_form, numbers_of, written, InRange, Reads}

pub order_read : (line ns : List ℕ) → ((ds : List (List ℕ)) × Filled order_form line ds × (ns ≡ map told ds)) → get_or ns 0 0 ≤ 1023 → get_or ns 1 0 ≤ 9 → get_or ns 2 0 ≤ 1000000000 → line ≡ fill order_form (map decimal (get_or ns 0 0 ∷ get_or ns 1 0 ∷ get_or ns 2 0 ∷ []))
order_read line ns (ds, f, e) i u v = go ds f e
  where
    go : (ds : List (List ℕ)) → Filled order_form line ds → ns ≡ map told ds → line ≡ fill order_form (map decimal (get_or ns 0 0 ∷ get_or ns 1 0 ∷ get_or ns 2 0 ∷ []))
    go [] f e = absurd (omega (arith, f.count))
    go (a ∷ []) f e = absurd (omega (arith, f.count))
    go (a ∷ b ∷ []) f e = absurd (omega (arith, f.count))
    go (a ∷ b ∷ c ∷ []) f e =
        let at : (k : ℕ) → get_or ns k 0 ≡ get_or (told a ∷ told b ∷ told c ∷ []) k 0 = λ k. ap (λ xs. get_or xs k 0) e in
        f.is
        ∙ ap (fill order_form) (numerals_printed (a ∷ b ∷ c ∷ []) f.numerals (omega (arith, i, at 0), (omega (arith, u, at 1), (omega (arith, v, at 2), tt))))
        ∙ sym (λ j. fill order_form (map decimal (at 0 j ∷ at 1 j ∷ at 2 j ∷ [])))
    go (a ∷ b ∷ c ∷ d ∷ ds) f e = absurd (omega (arith, f.count))

-- the line of an order in range has the form, with the order's numbers
module _ (e : LineEntry) (r : InRange (numbers_of e)) where
  order_filled : Filled order_form (written e) (map decimal (numbers_of e))
  order_filled = record {
    numerals = (printed_numeral e.order (omega (arith, r.0)), (printed_numeral e.urgency (omega (arith, r.1)), (printed_numeral e.due (omega (arith, r.2)), tt)));
    count = refl;
    is = refl;
  }

  order_values : map value (map decimal (numbers_of e)) ≡ numbers_of e
  order_values = λ j. printed_value e.order (omega (arith, r.0)) j ∷ printed_value e.urgency (omega (arith, r.1)) j ∷ printed_value e.due (omega (arith, r.2)) j ∷ []

  -- and no other numbers
  order_numbers : (line : List ℕ) → line ≡ written e → (ds : List (List ℕ)) → Filled order_form line ds → map value ds ≡ numbers_of e
  order_numbers line is ds f =
      ap (map value) (filled_once order_form line ds (map decimal (numbers_of e)) refl f (subst (λ l. Filled order_form l (map decimal (numbers_of e))) (sym is) order_filled)) ∙ order_values

same_order : (e f : LineEntry) → numbers_of e ≡ numbers_of f → e ≡ f
same_order e f h =
    let i : e.order ≡ f.order = cc in
    let u : e.urgency ≡ f.urgency = cc in
    let v : e.due ≡ f.due = cc in
    λ j. record { order = i j; urgency = u j; due = v j }

-- a line is read in one way only
pub reads_once : (line : List ℕ) (r s : Result LineEntry Unreadable) → Reads line r → Reads line s → r ≡ s
reads_once line (Ok e) (Ok f) h k =
    ap Ok (same_order e f (sym (order_numbers e h.1 line h.0 (map decimal (numbers_of f)) (subst (λ l. Filled order_form l (map decimal (numbers_of f))) (sym k.0) (order_filled f k.1))) ∙ order_values f k.1))
reads_once line (Ok e) (Err Malformed) h k = absurd (k (map decimal (numbers_of e)) (subst (λ l. Filled order_form l (map decimal (numbers_of e))) (sym h.0) (order_filled e h.1)))
reads_once line (Ok e) (Err OutOfRange) h k = absurd (k.2 (subst InRange (sym (order_numbers e h.1 line h.0 k.0 k.1)) h.1))
reads_once line (Err Malformed) (Ok f) h k = absurd (h (map decimal (numbers_of f)) (subst (λ l. Filled order_form l (map decimal (numbers_of f))) (sym k.0) (order_filled f k.1)))
reads_once line (Err Malformed) (Err Malformed) h k = refl
reads_once line (Err Malformed) (Err OutOfRange) h k = absurd (h k.0 k.1)
reads_once line (Err OutOfRange) (Ok f) h k = absurd (h.2 (subst InRange (sym (order_numbers f k.1 line k.0 h.0 h.1)) k.1))
reads_once line (Err OutOfRange) (Err Malformed) h k = absurd (k h.0 h.1)
reads_once line (Err OutOfRange) (Err OutOfRange) h k = refl
