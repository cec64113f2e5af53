-- The name of a mark, from its bytes.
use Rattle.std.proofs.Common.{◌≡◌, ◌∙◌, sym, ap, refl, ℕ, List, [], ◌∷◌, ◌++◌, append_assoc, inl, inr, length, take, drop, ◌-◌}
use Rattle.std.proofs.lemmas.List.{take_rest}
use Rattle.std.specs.Prelude.{codes, ◌⊎◌}
use Rattle.std.specs.List.{flat_map}
use Rattle.sqd_marks.specs.Bytes.{is_in_name, Stops, IsSpan}
use Rattle.sqd_marks.specs.Marks.{Tag, IsTag, IsWellFormedMark, close, mark_bytes, attribute_bytes, tag_bytes}
use Rattle.sqd_marks.specs.Tags.{IsTagOf, IsTail}
use Rattle.sqd_marks.proofs.Spans.{span, name_each, blank_stops}
use Rattle.sqd_marks.proofs.Values.{tail_stops}

-- the name of a tag in front, and the tail behind it
pub record IsTagCut (t : Tag) (name behind : List ℕ) : Type 0 where
  pub named : name ≡ t.name
  pub tail : IsTail t.attributes behind

tag_cut : (t : Tag) (bytes name behind finish : List ℕ) → IsTag t → (finish ≡ codes ">") ⊎ (finish ≡ codes "/>") → Stops is_in_name finish → tag_bytes t ++ finish ≡ bytes → IsSpan is_in_name bytes name behind → IsTagCut t name behind
tag_cut t bytes name behind finish h closes f e u =
    let s = span is_in_name t.name name _ behind (name_each t.name h.name) u.each (tail_stops t.attributes t.after finish h.attributes h.after f) u.stops (sym (append_assoc t.name _ finish) ∙ e ∙ u.whole) in
    record {
      named = sym s.front;
      tail = record { after = t.after; finish = finish; valid = h.attributes; blank = h.after; closes = closes; is = sym s.rest ∙ append_assoc (flat_map attribute_bytes t.attributes) t.after finish };
    }

-- what is behind the first byte of a mark
pub cut_of_tag : (t : Tag) (bytes name behind : List ℕ) → IsTagOf t bytes → IsSpan is_in_name (take (length bytes - 1) (drop 1 bytes)) name behind → IsTagCut t name behind
cut_of_tag t bytes name behind h u = elim h.spelled [
  | inl is ↦ tag_cut t (take (length bytes - 1) (drop 1 bytes)) name behind (62 ∷ []) h.valid (inl refl) refl (ap (drop 1) is ∙ sym (take_rest bytes 1)) u
  | inr is ↦ tag_cut t (take (length bytes - 1) (drop 1 bytes)) name behind (47 ∷ 62 ∷ []) h.valid (inr refl) refl (ap (drop 1) is ∙ sym (take_rest bytes 1)) u
]

-- the name behind the first two bytes of an end mark
pub name_of_end : (n after bytes name behind : List ℕ) → IsWellFormedMark (close n after) → mark_bytes (close n after) ≡ bytes → IsSpan is_in_name (take (length bytes - 2) (drop 2 bytes)) name behind → name ≡ n
name_of_end n after bytes name behind h is u =
    let same : n ++ (after ++ 62 ∷ []) ≡ name ++ behind = ap (drop 2) is ∙ sym (take_rest bytes 2) ∙ u.whole in
    sym (span is_in_name n name (after ++ 62 ∷ []) behind (name_each n h.0) u.each (blank_stops after (62 ∷ []) h.1 refl) u.stops same).front
