-- The six shapes: the machine's reader accepts exactly what a form writes.
use Rattle.std.proofs.Common.{◌≡◌, ℕ, List, [], ◌∷◌, map, length, Some, None, codes, Option, sym, refl, ap, ◌∙◌, arith}
use Rattle.scanner.specs.Numerals.{Digit}
use Rattle.machine.specs.declared.forms.Form.{Form}
use Rattle.machine.specs.declared.forms.Form.TheVariants.{Station, Order, Withdraw, Close, End}
use Rattle.machine.specs.Reading.{Shape, at, station_shape, last_station_shape, order_shape, withdraw_shape, close_shape, end_shape, scan, first_of, read_form}
use Rattle.form_texts.specs.Texts.{numeral, written, form_text, station_template, last_station_template, order_template, withdraw_template, close_template, end_template}
use Rattle.form_texts.specs.Capping.{told_of, Tells}
use Rattle.form_texts.proofs.Shapes.{scan_diverges}
use Rattle.form_texts.proofs.Templates.{template, Fits, all_numerals, scan_written, scan_writes}

-- the bytes "(", " " and ")", with which the words begin, are no digits
no_bracket : Digit 40 → ⊥
no_bracket d = omega (arith, d.0)

no_space : Digit 32 → ⊥
no_space d = omega (arith, d.0)

no_close : Digit 41 → ⊥
no_close d = omega (arith, d.0)

abbrev pub Fitting : Shape → Type 0
Fitting s = Fits s.words s.last

pub station_fits : Fitting station_shape
station_fits = record { solid = refl; marks = (no_bracket, (no_space, (no_close, (no_close, (no_close, no_close))))); clearly = refl }

pub last_station_fits : Fitting last_station_shape
last_station_fits = record { solid = refl; marks = (no_bracket, (no_space, (no_close, (no_close, no_close)))); clearly = refl }

pub order_fits : Fitting order_shape
order_fits = record { solid = refl; marks = (no_bracket, (no_space, (no_close, (no_close, (no_close, no_close))))); clearly = refl }

pub withdraw_fits : Fitting withdraw_shape
withdraw_fits = record { solid = refl; marks = (no_bracket, (no_space, no_close)); clearly = refl }

pub close_fits : Fitting close_shape
close_fits = record { solid = refl; marks = (no_bracket, (no_space, (no_close, no_close))); clearly = refl }

pub end_fits : Fitting end_shape
end_fits = record { solid = refl; marks = (no_bracket, no_close); clearly = refl }

-- What is read is what the form writes.

-- the form of a shape writes its template with its numbers
abbrev Writes : Shape → Type 0
Writes s = (ns : List ℕ) → length ns ≡ length s.words → form_text (s.form ns) ≡ written (template s.words s.last) ns

five_writes : (t : List ℕ) (ns : List ℕ) → length ns ≡ 5 → written t (at ns 0 ∷ at ns 1 ∷ at ns 2 ∷ at ns 3 ∷ at ns 4 ∷ []) ≡ written t ns
five_writes t [] e = absurd (omega (arith, e))
five_writes t (a ∷ []) e = absurd (omega (arith, e))
five_writes t (a ∷ b ∷ []) e = absurd (omega (arith, e))
five_writes t (a ∷ b ∷ c ∷ []) e = absurd (omega (arith, e))
five_writes t (a ∷ b ∷ c ∷ d ∷ []) e = absurd (omega (arith, e))
five_writes t (a ∷ b ∷ c ∷ d ∷ x ∷ []) e = refl
five_writes t (a ∷ b ∷ c ∷ d ∷ x ∷ y ∷ ns) e = absurd (omega (arith, e))

four_writes : (t : List ℕ) (ns : List ℕ) → length ns ≡ 4 → written t (at ns 0 ∷ at ns 1 ∷ at ns 2 ∷ at ns 3 ∷ []) ≡ written t ns
four_writes t [] e = absurd (omega (arith, e))
four_writes t (a ∷ []) e = absurd (omega (arith, e))
four_writes t (a ∷ b ∷ []) e = absurd (omega (arith, e))
four_writes t (a ∷ b ∷ c ∷ []) e = absurd (omega (arith, e))
four_writes t (a ∷ b ∷ c ∷ d ∷ []) e = refl
four_writes t (a ∷ b ∷ c ∷ d ∷ x ∷ ns) e = absurd (omega (arith, e))

three_writes : (t : List ℕ) (ns : List ℕ) → length ns ≡ 3 → written t (at ns 0 ∷ at ns 1 ∷ at ns 2 ∷ []) ≡ written t ns
three_writes t [] e = absurd (omega (arith, e))
three_writes t (a ∷ []) e = absurd (omega (arith, e))
three_writes t (a ∷ b ∷ []) e = absurd (omega (arith, e))
three_writes t (a ∷ b ∷ c ∷ []) e = refl
three_writes t (a ∷ b ∷ c ∷ d ∷ ns) e = absurd (omega (arith, e))

two_writes : (t : List ℕ) (ns : List ℕ) → length ns ≡ 2 → written t (at ns 0 ∷ at ns 1 ∷ []) ≡ written t ns
two_writes t [] e = absurd (omega (arith, e))
two_writes t (a ∷ []) e = absurd (omega (arith, e))
two_writes t (a ∷ b ∷ []) e = refl
two_writes t (a ∷ b ∷ c ∷ ns) e = absurd (omega (arith, e))

one_writes : (t : List ℕ) (ns : List ℕ) → length ns ≡ 1 → written t (at ns 0 ∷ []) ≡ written t ns
one_writes t [] e = absurd (omega (arith, e))
one_writes t (a ∷ []) e = refl
one_writes t (a ∷ b ∷ ns) e = absurd (omega (arith, e))

first_writes : (s : Shape) → Fitting s → Writes s → (ss : List Shape) (line : List ℕ) (f : Form) → (first_of ss line ≡ Some f → line ≡ form_text f) → first_of (s ∷ ss) line ≡ Some f → line ≡ form_text f
first_writes s fits writes ss line f later e = go (scan s.words s.last line) refl e
  where
    go : (o : Option (List ℕ)) → scan s.words s.last line ≡ o → elim o [ None ↦ first_of ss line | Some ns ↦ Some (s.form ns) ] ≡ Some f → line ≡ form_text f
    go None q h = later h
    go (Some ns) q h =
        let w = scan_writes s.words s.last fits line ns q in
        let g : s.form ns ≡ f = cc in
        w.0 ∙ sym (writes ns w.1) ∙ ap form_text g

none_writes : (line : List ℕ) (f : Form) → first_of [] line ≡ Some f → line ≡ form_text f
none_writes line f e = let z : ◌≡◌ {A = ℕ} 0 1 = cc in absurd (omega arith)

abbrev pub from_withdraw : List Shape
from_withdraw = withdraw_shape ∷ close_shape ∷ end_shape ∷ []

abbrev pub from_last : List Shape
from_last = last_station_shape ∷ order_shape ∷ from_withdraw

pub read_is_written : (line : List ℕ) (f : Form) → read_form line ≡ Some f → line ≡ form_text f
read_is_written line f =
    first_writes station_shape station_fits (five_writes station_template) from_last line f
    (first_writes last_station_shape last_station_fits (four_writes last_station_template) (order_shape ∷ from_withdraw) line f
    (first_writes order_shape order_fits (five_writes order_template) from_withdraw line f
    (first_writes withdraw_shape withdraw_fits (two_writes withdraw_template) (close_shape ∷ end_shape ∷ []) line f
    (first_writes close_shape close_fits (three_writes close_template) (end_shape ∷ []) line f
    (first_writes end_shape end_fits (one_writes end_template) [] line f (none_writes line f))))))

-- What a form writes is read.

-- a last station's line begins as that of another station, and goes on otherwise
last_is_no_next : (k b d w : ℕ) → scan station_shape.words station_shape.last (form_text (Station k b d w None)) ≡ None
last_is_no_next k b d w =
    scan_diverges last_station_shape.words (codes ") (next " ∷ []) (codes "))") last_station_shape.last (map numeral (k ∷ b ∷ d ∷ w ∷ [])) last_station_fits.marks (all_numerals (k ∷ b ∷ d ∷ w ∷ [])) refl refl

later_read : (s : Shape) (ss : List Shape) (line : List ℕ) → scan s.words s.last line ≡ None → first_of (s ∷ ss) line ≡ first_of ss line
later_read s ss line e = ap (λ (o : Option (List ℕ)). elim o [ None ↦ first_of ss line | Some ns ↦ Some (s.form ns) ]) e

here_read : (s : Shape) (ss : List Shape) → Fitting s → (ns : List ℕ) → length ns ≡ length s.words → first_of (s ∷ ss) (written (template s.words s.last) ns) ≡ Some (s.form ns)
here_read s ss fits ns e =
    ap (λ (o : Option (List ℕ)). elim o [ None ↦ first_of ss (written (template s.words s.last) ns) | Some ns ↦ Some (s.form ns) ]) (scan_written s.words s.last fits ns e)

pub text_is_read : (f : Form) → read_form (form_text f) ≡ Some f
text_is_read (Station k b d w (Some m)) = here_read station_shape from_last station_fits (k ∷ b ∷ d ∷ w ∷ m ∷ []) refl
text_is_read (Station k b d w None) =
    later_read station_shape from_last (form_text (Station k b d w None)) (last_is_no_next k b d w)
    ∙ here_read last_station_shape (order_shape ∷ from_withdraw) last_station_fits (k ∷ b ∷ d ∷ w ∷ []) refl
text_is_read (Order i t u v k) = here_read order_shape from_withdraw order_fits (i ∷ t ∷ u ∷ v ∷ k ∷ []) refl
text_is_read (Withdraw i t) = here_read withdraw_shape (close_shape ∷ end_shape ∷ []) withdraw_fits (i ∷ t ∷ []) refl
text_is_read (Close k t j) = here_read close_shape (end_shape ∷ []) close_fits (k ∷ t ∷ j ∷ []) refl
text_is_read (End t) = here_read end_shape [] end_fits (t ∷ []) refl

pub written_is_read : (line : List ℕ) (f : Form) → line ≡ form_text f → read_form line ≡ Some f
written_is_read line f e = ap read_form e ∙ text_is_read f

-- so what is told of what is read is told of the line
pub tells_read : (line : List ℕ) → Tells line (told_of (read_form line))
tells_read line = go (read_form line) refl
  where
    go : (o : Option Form) → read_form line ≡ o → Tells line (told_of o)
    go None e = λ f q. let r = written_is_read line f q in let z : ◌≡◌ {A = ℕ} 0 1 = cc in omega arith
    go (Some f) e = (f, read_is_written line f e, refl)
