-- the lines where a certificate is refused by the first test that it fails
use Rattle.std.specs.Prelude.{ℕ, List, [], ◌∷◌, codes, decimal}
use Rattle.certificate_model.specs.declared.refusal.EntryWhy.{EntryWhy}
use Rattle.certificate_model.specs.declared.refusal.EntryWhy.TheVariants.{Order, NotPossible, Beaten, Mark}
use Rattle.certificate_model.specs.declared.refusal.CloseWhy.{CloseWhy}
use Rattle.certificate_model.specs.declared.refusal.CloseWhy.TheVariants.{Shape, Number, SiteCan, NotCertain, NotAbove, OtherList, PopulationHolds, HopHolds, NotBeaten}
use Rattle.certificate_model.specs.declared.refusal.CertRefusal.{CertRefusal}
use Rattle.certificate_model.specs.declared.refusal.CertRefusal.TheVariants.{Entry, Close, Short, Long, Memory}
use Rattle.fault_lines.specs.FaultLines.{fault_line}

-- the word of the test that an entry fails
abbrev pub entry_word : EntryWhy → List ℕ
entry_word Order = codes "order"
entry_word NotPossible = codes "not-possible"
entry_word Beaten = codes "beaten"
entry_word Mark = codes "mark"

-- the word of the test that a token fails
abbrev pub close_word : CloseWhy → List ℕ
close_word Shape = codes "shape"
close_word Number = codes "number"
close_word SiteCan = codes "site-can"
close_word NotCertain = codes "not-certain"
close_word NotAbove = codes "not-above"
close_word OtherList = codes "other-list"
close_word PopulationHolds = codes "population-holds"
close_word HopHolds = codes "hop-holds"
close_word NotBeaten = codes "not-beaten"

-- the first test that a certificate fails; want of memory is no such test, and has no words
abbrev pub refusal_words : CertRefusal → List (List ℕ)
refusal_words (Entry j why) = codes "entry" ∷ decimal j ∷ entry_word why ∷ []
refusal_words (Close k why) = codes "token" ∷ decimal k ∷ close_word why ∷ []
refusal_words Short = codes "short" ∷ []
refusal_words Long = codes "long" ∷ []
refusal_words Memory = []

-- the line where a certificate is refused
abbrev pub certificate_fault_line : CertRefusal → List ℕ
certificate_fault_line refusal = fault_line (codes "certificate" ∷ refusal_words refusal)
