-- the entries of a window list are charge lists
use Rattle.std.proofs.Common.{◌≡◌, ◌∙◌, suc, ℕ, ℤ, List, [], ◌∷◌, length, map, arith}
use Rattle.std.specs.Prelude.{All}
use Rattle.std.proofs.lemmas.List.{length-map}
use Rattle.std.proofs.lemmas.List.Elements.{All-nil, All-cons}
use Rattle.std.proofs.lemmas.Slice.Zip.{AllZip-long}
use Rattle.charge_model.specs.Problem.{Problem}
use Rattle.charge_model.specs.Rules.{IsChargeList}
use Rattle.charge_model.specs.GroundList.{Entry, lists_of}
use Rattle.window_model.specs.Windows.{IsMarkedWindowList, IsWithin}
use Rattle.ground_report.specs.Subject.{AreListsOfProblem}
use Rattle.occupation.specs.declared.share.Share.{Share}
use Rattle.occupation.specs.Shares.{AreRoundedShares, IsRoundedShare}

-- the entries of a marked window list are charge lists of the problem
pub entries_of : (p : Problem) (window : ℤ) (es : List Entry) → IsMarkedWindowList p window es → AreListsOfProblem p es
entries_of p window es is = listed es is.within.only_listed
  where
    listed : (es : List Entry) → All (IsWithin p window) (map (λ e. e.charges) es) → All (λ e. IsChargeList p e.charges) es
    listed [] all = All-nil (λ (e : Entry). IsChargeList p e.charges)
    listed (e ∷ es) all = All-cons (λ (e : Entry). IsChargeList p e.charges) e es (all 0 e.charges (omega arith)).is_list (listed es (λ k d less. all (suc k) d (omega arith)))

pub lists_are : (p : Problem) (window : ℤ) (es : List Entry) → IsMarkedWindowList p window es → All (IsChargeList p) (lists_of es)
lists_are p window es is = λ k d less. (is.within.only_listed k d less).is_list

-- an entry has one share
pub one_each : (p : Problem) (kt : ℕ) (es : List Entry) (shares : List Share) → AreRoundedShares p kt (lists_of es) shares → length shares ≡ length es
one_each p kt es shares are =
    AllZip-long (IsRoundedShare p kt (lists_of es)) (lists_of es) shares are ∙ length-map es (λ (e : Entry). e.charges)
