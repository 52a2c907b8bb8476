-- What is told of a line along each shape, by what the scanner tells.
use Rattle.std.proofs.Common.{◌≡◌, ℕ, zero, suc, List, [], ◌∷◌, map, length, Some, None, Option, sym, refl, ap, ◌∙◌}
use Rattle.std.specs.Option.{option_or}
use Rattle.scanner.specs.Templates.{Scans}
use Rattle.machine.specs.declared.forms.Form.{Form}
use Rattle.machine.specs.declared.forms.Form.TheVariants.{Station, Order, Withdraw, Close, End}
use Rattle.machine.specs.Reading.{Shape, at, station_shape, last_station_shape, order_shape, withdraw_shape, close_shape, end_shape, scan, first_of, read_form}
use Rattle.form_texts.specs.Texts.{station_template, last_station_template, order_template, withdraw_template, close_template, end_template}
use Rattle.form_texts.specs.Capping.{cap, capped, told_of}
use Rattle.form_texts.proofs.Templates.{template, scanned, unscanned}
use Rattle.form_texts.proofs.Reading.{Fitting, station_fits, last_station_fits, order_fits, withdraw_fits, close_fits, end_fits, from_withdraw, from_last}

at_cap : (ns : List ℕ) (i : ℕ) → at (map cap ns) i ≡ cap (at ns i)
at_cap [] i = refl
at_cap (n ∷ ns) zero = refl
at_cap (n ∷ ns) (suc i) = at_cap ns i

-- the form of capped numbers is the capped form
abbrev Caps : Shape → Type 0
Caps s = (ns : List ℕ) → s.form (map cap ns) ≡ capped (s.form ns)

-- what is told along one shape
abbrev pub told_as : Shape → List ℕ → Option Form
told_as s line = told_of (first_of (s ∷ []) line)

module _ (s : Shape) (fits : Fitting s) (line : List ℕ) where
  abbrev told_by : Option (List ℕ) → Option Form
  told_by o = told_of (elim o [ None ↦ None | Some ns ↦ Some (s.form ns) ])

  some : Caps s → (ns : List ℕ) → Scans (length s.words) (template s.words s.last) line (Some ns) → Some (s.form ns) ≡ told_as s line
  some caps ns h =
      let r = scanned s.words s.last fits line (length s.words) ns h in
      ap (λ ms. Some (s.form ms)) r.2 ∙ ap Some (caps r.0) ∙ sym (ap told_by r.1)

  none : Scans (length s.words) (template s.words s.last) line None → None ≡ told_as s line
  none h = sym (ap told_by (unscanned s.words s.last fits line h (scan s.words s.last line) refl))

module _ (line : List ℕ) where
  pub station_told : (ns : List ℕ) → Scans 5 station_template line (Some ns) → Some (station_shape.form ns) ≡ told_as station_shape line
  station_told = some station_shape station_fits line (λ ns j. Station (at_cap ns 0 j) (at_cap ns 1 j) (at_cap ns 2 j) (at_cap ns 3 j) (Some (at_cap ns 4 j)))

  pub station_untold : Scans 5 station_template line None → None ≡ told_as station_shape line
  station_untold = none station_shape station_fits line

  pub last_station_told : (ns : List ℕ) → Scans 4 last_station_template line (Some ns) → Some (last_station_shape.form ns) ≡ told_as last_station_shape line
  last_station_told = some last_station_shape last_station_fits line (λ ns j. Station (at_cap ns 0 j) (at_cap ns 1 j) (at_cap ns 2 j) (at_cap ns 3 j) None)

  pub last_station_untold : Scans 4 last_station_template line None → None ≡ told_as last_station_shape line
  last_station_untold = none last_station_shape last_station_fits line

  pub order_told : (ns : List ℕ) → Scans 5 order_template line (Some ns) → Some (order_shape.form ns) ≡ told_as order_shape line
  order_told = some order_shape order_fits line (λ ns j. Order (at_cap ns 0 j) (at_cap ns 1 j) (at_cap ns 2 j) (at_cap ns 3 j) (at_cap ns 4 j))

  pub order_untold : Scans 5 order_template line None → None ≡ told_as order_shape line
  order_untold = none order_shape order_fits line

  pub withdraw_told : (ns : List ℕ) → Scans 2 withdraw_template line (Some ns) → Some (withdraw_shape.form ns) ≡ told_as withdraw_shape line
  withdraw_told = some withdraw_shape withdraw_fits line (λ ns j. Withdraw (at_cap ns 0 j) (at_cap ns 1 j))

  pub withdraw_untold : Scans 2 withdraw_template line None → None ≡ told_as withdraw_shape line
  withdraw_untold = none withdraw_shape withdraw_fits line

  pub close_told : (ns : List ℕ) → Scans 3 close_template line (Some ns) → Some (close_shape.form ns) ≡ told_as close_shape line
  close_told = some close_shape close_fits line (λ ns j. Close (at_cap ns 0 j) (at_cap ns 1 j) (at_cap ns 2 j))

  pub close_untold : Scans 3 close_template line None → None ≡ told_as close_shape line
  close_untold = none close_shape close_fits line

  pub end_told : (ns : List ℕ) → Scans 1 end_template line (Some ns) → Some (end_shape.form ns) ≡ told_as end_shape line
  end_told = some end_shape end_fits line (λ ns j. End (at_cap ns 0 j))

  pub end_untold : Scans 1 end_template line None → None ≡ told_as end_shape line
  end_untold = none end_shape end_fits line

-- Along the shapes in their order: the first that tells anything.

first_told : (s : Shape) (ss : List Shape) (line : List ℕ) → told_of (first_of (s ∷ ss) line) ≡ option_or (told_as s line) (told_of (first_of ss line))
first_told s ss line = go (scan s.words s.last line)
  where
    go : (o : Option (List ℕ)) → told_of (elim o [ None ↦ first_of ss line | Some ns ↦ Some (s.form ns) ]) ≡ option_or (told_of (elim o [ None ↦ None | Some ns ↦ Some (s.form ns) ])) (told_of (first_of ss line))
    go None = refl
    go (Some ns) = refl

-- of six in a row, the first that is there
abbrev pub first_of_six : Option Form → Option Form → Option Form → Option Form → Option Form → Option Form → Option Form
first_of_six a b c d e f = option_or (option_or (option_or (option_or (option_or a b) c) d) e) f

nested : (a b c d e f : Option Form) → first_of_six a b c d e f ≡ option_or a (option_or b (option_or c (option_or d (option_or e (option_or f None)))))
nested (Some x) b c d e f = refl
nested None (Some x) c d e f = refl
nested None None (Some x) d e f = refl
nested None None None (Some x) e f = refl
nested None None None None (Some x) f = refl
nested None None None None None None = refl
nested None None None None None (Some x) = refl

pub form_told : (line : List ℕ) → first_of_six (told_as station_shape line) (told_as last_station_shape line) (told_as order_shape line) (told_as withdraw_shape line) (told_as close_shape line) (told_as end_shape line) ≡ told_of (read_form line)
form_told line =
    nested (told_as station_shape line) (told_as last_station_shape line) (told_as order_shape line) (told_as withdraw_shape line) (told_as close_shape line) (told_as end_shape line)
    ∙ sym (first_told station_shape from_last line
    ∙ ap (option_or (told_as station_shape line)) (first_told last_station_shape (order_shape ∷ from_withdraw) line
    ∙ ap (option_or (told_as last_station_shape line)) (first_told order_shape from_withdraw line
    ∙ ap (option_or (told_as order_shape line)) (first_told withdraw_shape (close_shape ∷ end_shape ∷ []) line
    ∙ ap (option_or (told_as withdraw_shape line)) (first_told close_shape (end_shape ∷ []) line
    ∙ ap (option_or (told_as close_shape line)) (first_told end_shape [] line))))))
