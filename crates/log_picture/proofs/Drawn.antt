-- A drawing is put together from parts.
use Rattle.std.proofs.Common.{◌≡◌, ℕ, suc, ◌+◌, ◌-◌, ◌*◌, ◌<◌, List, ◌++◌, length, ◌∙◌, append_assoc, ap, ap₂, sym, arith, refl}
use Rattle.std.specs.Prelude.{min, max, codes, decimal}
use Rattle.std.specs.List.{flat_map}
use Rattle.tc_log.specs.declared.event.Event.{Event}
use Rattle.log_picture.specs.declared.drawing.TheConstants.{LEGEND}
use Rattle.log_picture.specs.declared.picture.Picture.{Picture}
use Rattle.log_picture.specs.Canvas.{Sheet, sheet_from, x_of}
use Rattle.log_picture.specs.Drawing.{tick_at, ticks_text, drawn_text, caption_text, head_text, records_text, svg_text}

-- a record's name, a mode's, a transaction and a span
abbrev pub use_form : List ℕ → List ℕ → ℕ → List ℕ → List ℕ
use_form name class txn span = name ++ (codes ": " ++ (class ++ (codes " by transaction " ++ (decimal txn ++ (codes ", " ++ span)))))

pub use_form_is : (name class mode span place line : List ℕ) (txn : ℕ) → class ≡ mode → span ≡ place → line ≡ use_form name class txn span
    → line ≡ use_form name mode txn place
use_form_is name class mode span place line txn class_is span_is is =
    is ∙ (ap (λ (c : List ℕ). use_form name c txn span) class_is ∙ ap (use_form name mode txn) span_is)

-- six parts, one behind the other
pub six_parts : (a b c d e f one two three four five six : List ℕ) → one ≡ a → two ≡ one ++ b → three ≡ two ++ c → four ≡ three ++ d
    → five ≡ four ++ e → six ≡ five ++ f → six ≡ a ++ (b ++ (c ++ (d ++ (e ++ f))))
six_parts a b c d e f one two three four five six p q r s t u = rw (u, t, s, r, q, p) (simp append_assoc)

-- the lines of the places from this one on
pub ticks_next : (c : Sheet) (height place end : ℕ) → place < end
    → ticks_text c height place (end - place) ≡ tick_at c height place ++ ticks_text c height (place + 1) (end - (place + 1))
ticks_next c height place end less =
    let more : end - place ≡ suc (end - (place + 1)) = omega (arith, less) in
    ap (ticks_text c height place) more

pub ticks_more : (all old new tick : List ℕ) (c : Sheet) (height place end : ℕ) → place < end → all ≡ old ++ ticks_text c height place (end - place)
    → new ≡ old ++ tick → tick ≡ tick_at c height place → all ≡ new ++ ticks_text c height (place + 1) (end - (place + 1))
ticks_more all old new tick c height place end less so_far grown is =
    let rest = ticks_text c height (place + 1) (end - (place + 1)) in
    so_far
    ∙ (ap (λ (t : List ℕ). old ++ t) (ticks_next c height place end less)
    ∙ (sym (append_assoc old (tick_at c height place) rest)
    ∙ ap (λ (t : List ℕ). t ++ rest) (ap (λ (t : List ℕ). old ++ t) (sym is) ∙ sym grown)))

-- the whole, of its parts
module _ (events : List Event) (from end count : ℕ) (p : Picture) (c : Sheet) (below width height : ℕ)
    (canvas : c ≡ sheet_from from end) (low : below ≡ 64 + min p.lanes 200 * 22) (wide : width ≡ max (x_of c end + 20) 960)
    (tall : height ≡ below + 60 + length p.rows.items * 16) where
  head_is : head_text width height
      ≡ head_text (max (x_of (sheet_from from end) end + 20) 960) (64 + min p.lanes 200 * 22 + 60 + length p.rows.items * 16)
  head_is =
      ap₂ head_text (wide ∙ ap (λ (s : Sheet). max (x_of s end + 20) 960) canvas)
      (tall ∙ ap (λ (n : ℕ). n + 60 + length p.rows.items * 16) low)

  ticks_are : ticks_text c (below - 44) c.from (c.to - c.from)
      ≡ ticks_text (sheet_from from end) (64 + min p.lanes 200 * 22 - 44) from (end - from)
  ticks_are =
      ap (λ (n : ℕ). ticks_text c (n - 44) c.from (c.to - c.from)) low
      ∙ ap (λ (s : Sheet). ticks_text s (64 + min p.lanes 200 * 22 - 44) s.from (s.to - s.from)) canvas

  pub svg_is : (one two three four five six : List ℕ) → one ≡ head_text width height
      → two ≡ one ++ caption_text c count (length p.tracks.items) p.lanes → three ≡ two ++ LEGEND.now
      → four ≡ three ++ ticks_text c (below - 44) c.from (c.to - c.from) → five ≡ four ++ flat_map (drawn_text c events) p.tracks.items
      → six ≡ five ++ records_text c below p → six ≡ svg_text events from end count p
  unfolding svg_text
  svg_is one two three four five six first second third fourth fifth sixth =
      six_parts _ _ _ _ _ _ one two three four five six (first ∙ head_is)
      (second ∙ ap (λ (s : Sheet). one ++ caption_text s count (length p.tracks.items) p.lanes) canvas) third
      (fourth ∙ ap (λ (t : List ℕ). three ++ t) ticks_are)
      (fifth ∙ ap (λ (s : Sheet). four ++ flat_map (drawn_text s events) p.tracks.items) canvas)
      (sixth ∙ ap₂ (λ (s : Sheet) (n : ℕ). five ++ records_text s n p) canvas low)
