-- Shapes as templates: what the scanner reads along a template is what the machine's reader reads along the shape.
use Rattle.std.proofs.Common.{◌≡◌, ℕ, Bool, true, false, not, ◌&&◌, List, [], ◌∷◌, ◌++◌, map, length, Some, None, Option, sym, refl, ap, ◌∙◌, arith}
use Rattle.std.specs.List.{AllByRecursion}
use Rattle.std.proofs.lemmas.List.{length-map}
use Rattle.std.proofs.lemmas.Bool.Decides.{nat_tests}
use Rattle.scanner.specs.Numerals.{Numeral, value, told}
use Rattle.scanner.specs.Templates.{gap, gaps, fill, clear, Scans}
use Rattle.scanner.proofs.Filling.{fill_byte, gaps_byte}
use Rattle.machine.specs.Reading.{scan}
use Rattle.form_texts.specs.Texts.{numeral, written}
use Rattle.form_texts.specs.Capping.{cap}
use Rattle.form_texts.proofs.Numbers.{value_numeral, numeral_is, numeral_value}
use Rattle.form_texts.proofs.Shapes.{laid, scan_split, Marks, scan_read}

-- the words with a gap after each
abbrev pub template : List (List ℕ) → List ℕ → List ℕ
template [] last = last
template (w ∷ ws) last = w ++ (35 ∷ template ws last)

-- no byte of it is a gap
abbrev pub solid : List ℕ → Bool
solid [] = true
solid (c ∷ cs) = not (gap c) && solid cs

abbrev pub all_solid : List (List ℕ) → List ℕ → Bool
all_solid [] last = solid last
all_solid (w ∷ ws) last = solid w && all_solid ws last

fill_word : (w t : List ℕ) (ds : List (List ℕ)) → solid w ≡ true → fill (w ++ t) ds ≡ w ++ fill t ds
fill_word [] t ds s = refl
fill_word (c ∷ w) t ds s =
    let g : gap c ≡ false = grind (arith, nat_tests, s) in
    let h : solid w ≡ true = grind (arith, nat_tests, s) in
    fill_byte c (w ++ t) g ds ∙ ap (λ l. c ∷ l) (fill_word w t ds h)

gaps_word : (w t : List ℕ) → solid w ≡ true → gaps (w ++ t) ≡ gaps t
gaps_word [] t s = refl
gaps_word (c ∷ w) t s =
    let g : gap c ≡ false = grind (arith, nat_tests, s) in
    let h : solid w ≡ true = grind (arith, nat_tests, s) in
    gaps_byte c (w ++ t) g ∙ gaps_word w t h

fill_last : (last : List ℕ) (ds : List (List ℕ)) → solid last ≡ true → fill last ds ≡ last
fill_last [] ds s = refl
fill_last (c ∷ w) ds s =
    let g : gap c ≡ false = grind (arith, nat_tests, s) in
    let h : solid w ≡ true = grind (arith, nat_tests, s) in
    fill_byte c w g ds ∙ ap (λ l. c ∷ l) (fill_last w ds h)

gaps_last : (last : List ℕ) → solid last ≡ true → gaps last ≡ 0
gaps_last [] s = refl
gaps_last (c ∷ w) s =
    let g : gap c ≡ false = grind (arith, nat_tests, s) in
    let h : solid w ≡ true = grind (arith, nat_tests, s) in
    gaps_byte c w g ∙ gaps_last w h

fill_laid : (ws : List (List ℕ)) (last : List ℕ) (ds : List (List ℕ)) → all_solid ws last ≡ true → length ds ≡ length ws → fill (template ws last) ds ≡ laid ws last ds
fill_laid [] last ds s e = fill_last last ds s
fill_laid (w ∷ ws) last [] s e = absurd (omega (arith, e))
fill_laid (w ∷ ws) last (d ∷ ds) s e =
    let g : solid w ≡ true = grind (arith, nat_tests, s) in
    let h : all_solid ws last ≡ true = grind (arith, nat_tests, s) in
    fill_word w (35 ∷ template ws last) (d ∷ ds) g ∙ ap (λ l. w ++ (d ++ l)) (fill_laid ws last ds h (omega (arith, e)))

gaps_laid : (ws : List (List ℕ)) (last : List ℕ) → all_solid ws last ≡ true → gaps (template ws last) ≡ length ws
gaps_laid [] last s = gaps_last last s
gaps_laid (w ∷ ws) last s =
    let g : solid w ≡ true = grind (arith, nat_tests, s) in
    let h : all_solid ws last ≡ true = grind (arith, nat_tests, s) in
    gaps_word w (35 ∷ template ws last) g ∙ omega (arith, gaps_laid ws last h)

-- words that a template may have
pub record Fits (ws : List (List ℕ)) (last : List ℕ) : Type 0 where
  pub solid : all_solid ws last ≡ true
  pub marks : Marks ws last
  pub clearly : clear (template ws last) ≡ true

map_told : (ds : List (List ℕ)) → map told ds ≡ map cap (map value ds)
map_told [] = refl
map_told (d ∷ ds) = ap (λ l. told d ∷ l) (map_told ds)

numerals_valued : (ds : List (List ℕ)) → AllByRecursion Numeral ds → ds ≡ map numeral (map value ds)
numerals_valued [] p = refl
numerals_valued (d ∷ ds) p = λ j. sym (numeral_value d p.0) j ∷ numerals_valued ds p.1 j

pub all_numerals : (ns : List ℕ) → AllByRecursion Numeral (map numeral ns)
all_numerals [] = tt
all_numerals (n ∷ ns) = (numeral_is n, all_numerals ns)

values_numbered : (ns : List ℕ) → map value (map numeral ns) ≡ ns
values_numbered [] = refl
values_numbered (n ∷ ns) = λ j. value_numeral n j ∷ values_numbered ns j

module _ (ws : List (List ℕ)) (last : List ℕ) (f : Fits ws last) where
  -- the line of these numbers is read, and no other gives them
  pub scan_written : (ns : List ℕ) → length ns ≡ length ws → scan ws last (written (template ws last) ns) ≡ Some ns
  scan_written ns e =
      let count : length (map numeral ns) ≡ length ws = length-map ns numeral ∙ e in
      ap (scan ws last) (fill_laid ws last (map numeral ns) f.solid count)
      ∙ scan_read ws last (map numeral ns) f.marks (all_numerals ns) count
      ∙ ap Some (values_numbered ns)

  pub scan_writes : (bs ns : List ℕ) → scan ws last bs ≡ Some ns → (bs ≡ written (template ws last) ns) × (length ns ≡ length ws)
  scan_writes bs ns e =
      let h = scan_split ws last bs ns e in
      let ds = h.numerals in
      (h.is ∙ sym (fill_laid ws last ds f.solid h.count) ∙ ap (fill (template ws last)) (numerals_valued ds h.each ∙ ap (map numeral) (sym h.numbers)), ap length h.numbers ∙ length-map ds value ∙ h.count)

  -- what the scanner tells
  pub scanned : (line : List ℕ) (n : ℕ) (ns : List ℕ) → Scans n (template ws last) line (Some ns) → (ms : List ℕ) × (scan ws last line ≡ Some ms) × (ns ≡ map cap ms)
  scanned line n ns (ds, h, e) =
      let count : length ds ≡ length ws = h.count ∙ gaps_laid ws last f.solid in
      (map value ds, ap (scan ws last) (h.is ∙ fill_laid ws last ds f.solid count) ∙ scan_read ws last ds f.marks h.numerals count, e ∙ map_told ds)

  pub unscanned : (line : List ℕ) → Scans (length ws) (template ws last) line None → (o : Option (List ℕ)) → scan ws last line ≡ o → o ≡ None
  unscanned line h None e = refl
  unscanned line h (Some ns) e =
      let s = scan_split ws last line ns e in
      absurd (h (gaps_laid ws last f.solid) f.clearly s.numerals (record {
        numerals = s.each;
        count = s.count ∙ sym (gaps_laid ws last f.solid);
        is = s.is ∙ sym (fill_laid ws last s.numerals f.solid s.count);
      }))
