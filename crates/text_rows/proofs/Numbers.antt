-- A number of at most seventeen digits is read from its text.
use Rattle.std.proofs.Common.{◌≡◌, sym, subst, ℕ, ℤ, pos, negsuc, ◌<◌, ◌^◌, List, Result, Ok, arith, w64}
use lib.Signed.{mag}
use Rattle.std.specs.Fmt.{signed_decimal}
use Rattle.std.specs.Int.RustNames.{FitsSigned}
use Rattle.std.specs.Str.{IsUtf8}
use Rattle.std.specs.Str.Parse.{ParsesSigned}
use Rattle.std.proofs.lemmas.Fmt.{parse-signed_decimal, IsAscii-signed}
use Rattle.std.proofs.lemmas.Str.{IsUtf8-from_ascii}
use Rattle.text_rows.specs.Rows.{IsShort}

pub short_mag : (z : ℤ) → IsShort z → mag z < 2 ^ 63
short_mag (pos n) h = omega arith
short_mag (negsuc n) h = omega arith

pub short_fits : (z : ℤ) → IsShort z → FitsSigned w64 z
short_fits z h = record { sfits = short_mag z h }

-- such a number is text
pub is_text : (word : List ℕ) (z : ℤ) → IsShort z → word ≡ signed_decimal z → IsUtf8 word
is_text word z h e = subst IsUtf8 (sym e) (IsUtf8-from_ascii _ (IsAscii-signed z (short_mag z h)))

-- such a number is parsed
pub is_parsed : {E : Type 0} (word : List ℕ) (z : ℤ) (r : Result ℤ E) → IsShort z → word ≡ signed_decimal z → ParsesSigned w64 10 word r → r ≡ Ok z
is_parsed word z r h e p = parse-signed_decimal w64 z word r (short_fits z h) (short_mag z h) e p
