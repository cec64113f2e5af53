use Rattle.std.proofs.Common.{◌≡◌, ◌∙◌, ℕ, suc, ◌+◌, ◌-◌, ◌/◌, ◌%◌, ◌^◌, ◌<◌, List, [], ◌∷◌, ◌++◌, append_assoc, append-nil, string_bytes, ap, sym, subst, arith, rules}
use Rattle.std.proofs.Math.Nat.{one-le-pow}
use Rattle.std.proofs.lemmas.Nat.{mod_below}
use Rattle.std.specs.Prelude.{encode_utf8}
use Rattle.sidb_units.specs.Decimal.{last_digits}
use Rattle.sidb_units.proofs.decimal_printing.push_digits.Goals as goal

pub nonzero_div-digit : goal.nonzero_div-digit
nonzero_div-digit c = rw c.pow.ensures (one-le-pow _ 10 (omega arith))

-- one digit more stands at the end, and one less is left
step : (old new all : List ℕ) (v left k : ℕ) → left ≡ suc k → new ≡ old ++ (48 + v / 10 ^ k % 10) ∷ [] → old ++ last_digits left v ≡ all → new ++ last_digits k v ≡ all
unfolding last_digits
step old new all v left k is more before = rw (more, append_assoc) (subst (λ (n : ℕ). old ++ last_digits n v ≡ all) is before)

pub loop-left-preserved : goal.loop-left-preserved
loop-left-preserved c =
    let k : ℕ = c.loop-left.left - 1 in
    let is : c.loop-left.left ≡ suc k = omega arith in
    let digit : c.args.value / c.pow.result % 10 < 10 = mod_below (c.args.value / c.pow.result) 10 (omega arith) in
    let char : c.from.result ≡ 48 + c.args.value / c.pow.result % 10 = search rules in
    let one : encode_utf8 c.from.result ≡ c.from.result ∷ [] = c.in_ok-push.ensures.ascii (omega arith) in
    let pushed : string_bytes c.push.new.self ≡ string_bytes c.loop-left.text ++ encode_utf8 c.from.result = c.in_ok-push.ensures.bytes in
    let more : string_bytes c.push.new.self ≡ string_bytes c.loop-left.text ++ (48 + c.args.value / 10 ^ k % 10) ∷ [] =
    pushed ∙ ap (λ (e : List ℕ). string_bytes c.loop-left.text ++ e) (one ∙ ap (λ (d : ℕ). d ∷ []) (char ∙ ap (λ (p : ℕ). 48 + c.args.value / p % 10) c.pow.ensures)) in
    record {
      few = omega arith;
      same = step (string_bytes c.loop-left.text) (string_bytes c.push.new.self) _ c.args.value c.loop-left.left k is more c.loop-left.invariant.same;
    }

none_left : (old all : List ℕ) (v left : ℕ) → left ≡ 0 → old ++ last_digits left v ≡ all → old ≡ all
unfolding last_digits
none_left old all v left is before = sym (append-nil old) ∙ subst (λ (n : ℕ). old ++ last_digits n v ≡ all) is before

pub returns : goal.returns
returns c = none_left (string_bytes c.loop-left.text) _ c.args.value c.loop-left.left (omega arith) c.loop-left.invariant.same
