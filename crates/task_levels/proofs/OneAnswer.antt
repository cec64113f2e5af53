-- a problem has one answer
use Rattle.std.proofs.Common.{◌≡◌, ◌∙◌, inl, inr, sym, subst, ap, ℕ, ℤ, List, Bool, unsigned_abs}
use Rattle.charge_model.specs.declared.charge.Charge.{Charge}
use Rattle.charge_model.specs.Problem.{Problem}
use Rattle.charge_model.specs.GroundList.{Entry, lists_of}
use Rattle.command_words.specs.declared.settings.Settings.{Settings}
use Rattle.ground_state.specs.Window.{IsWindowListedWithin, IsWindowOverLimit, IsWindowTooLongWithin, IsWindowWithinLimit}
use Rattle.ground_report.specs.declared.about.About.{About}
use Rattle.occupation.specs.declared.share.Share.{Share}
use Rattle.occupation.specs.Shares.{AreRoundedShares}
use Rattle.run_answer.specs.declared.status.Status.{Status}
use Rattle.sim_report.specs.WindowText.{IsWindowText}
use Rattle.task_levels.specs.OccupationAnswer.{IsOccupationAnswer, IsOccupationReport, text_of_shares}
use Rattle.task_levels.specs.WindowAnswer.{IsListText, IsWindowListAnswer, IsWindowReport, IsWindowUnlisted}

-- a window list, or why there is none, is one
pub record ListsAreOne : Type 0 where
  pub list : (p : Problem) (window : ℤ) (limit : ℕ) (es fs : List Entry) → IsWindowListedWithin p window limit es → IsWindowListedWithin p window limit fs → es ≡ fs
  pub length : (p : Problem) (window : ℤ) (limit : ℕ) (es : List Entry) → IsWindowListedWithin p window limit es → IsWindowTooLongWithin p window limit → ⊥
  pub budget : (p : Problem) (window : ℤ) (limit : ℕ) → IsWindowWithinLimit p window limit → IsWindowOverLimit p window limit → ⊥

-- a window text is one
abbrev pub TextsAreOne : Type 0
TextsAreOne = (a : About) (p : Problem) (window : ℤ) (es : List Entry) (energies : Bool) (t u : List ℕ) → IsWindowText a p window es energies t → IsWindowText a p window es energies u → t ≡ u

-- the shares of the entries of a list are one list
abbrev pub SharesAreOne : Type 0
SharesAreOne = (p : Problem) (kt : ℕ) (l : List (List Charge)) (s r : List Share) → AreRoundedShares p kt l s → AreRoundedShares p kt l r → s ≡ r

module _ (one : ListsAreOne) (settings : Settings) (p : Problem) where
  same_unlisted : (s r : Status) (t u : List ℕ) → IsWindowUnlisted settings p s t → IsWindowUnlisted settings p r u → (s ≡ r) × (t ≡ u)
  same_unlisted s r t u (inl a) (inl b) = (a.1.0 ∙ sym b.1.0, a.1.1 ∙ sym b.1.1)
  same_unlisted s r t u (inl a) (inr b) = absurd (one.budget p settings.levels.window.width settings.search.limit b.0.budget a.0)
  same_unlisted s r t u (inr a) (inl b) = absurd (one.budget p settings.levels.window.width settings.search.limit a.0.budget b.0)
  same_unlisted s r t u (inr a) (inr b) = (a.1.0 ∙ sym b.1.0, a.1.1 ∙ sym b.1.1)

  -- a problem with a list has no other answer
  not_unlisted : (es : List Entry) (s : Status) (u : List ℕ) → IsWindowListedWithin p settings.levels.window.width settings.search.limit es → IsWindowUnlisted settings p s u → ⊥
  not_unlisted es s u list (inl over) = one.budget p settings.levels.window.width settings.search.limit list.budget over.0
  not_unlisted es s u list (inr long) = one.length p settings.levels.window.width settings.search.limit es list long.0

  module _ (text : TextsAreOne) (about : About) where
    same_report : (t u : List ℕ) → IsWindowReport settings about p t → IsWindowReport settings about p u → t ≡ u
    same_report t u a b =
        let entries = one.list p settings.levels.window.width settings.search.limit a.entries b.entries a.list b.list in
        text about p settings.levels.window.width b.entries settings.report.energies t u (subst (λ (es : List Entry). IsListText settings about p es t) entries a.prints) b.prints

    pub same_answer : (s r : Status) (t u : List ℕ) → IsWindowListAnswer settings about p s t → IsWindowListAnswer settings about p r u → (s ≡ r) × (t ≡ u)
    same_answer s r t u (inl a) (inl b) = (a.0 ∙ sym b.0, same_report t u a.1 b.1)
    same_answer s r t u (inl a) (inr b) = absurd (not_unlisted a.1.entries r u a.1.list b)
    same_answer s r t u (inr a) (inl b) = absurd (not_unlisted b.1.entries s t b.1.list a)
    same_answer s r t u (inr a) (inr b) = same_unlisted s r t u a b

  module _ (shares : SharesAreOne) where
    same_shares : (t u : List ℕ) → IsOccupationReport settings p t → IsOccupationReport settings p u → t ≡ u
    same_shares t u a b =
        let entries = one.list p settings.levels.window.width settings.search.limit a.entries b.entries a.list b.list in
        let by_rule = subst (λ (es : List Entry). AreRoundedShares p (unsigned_abs settings.levels.kt) (lists_of es) a.shares) entries a.by_rule in
        let same = shares p (unsigned_abs settings.levels.kt) (lists_of b.entries) a.shares b.shares by_rule b.by_rule in
        a.prints ∙ ap (λ (es : List Entry). text_of_shares settings p es a.shares) entries ∙ ap (λ (ss : List Share). text_of_shares settings p b.entries ss) same ∙ sym b.prints

    pub same_occupation : (s r : Status) (t u : List ℕ) → IsOccupationAnswer settings p s t → IsOccupationAnswer settings p r u → (s ≡ r) × (t ≡ u)
    same_occupation s r t u (inl a) (inl b) = (a.0 ∙ sym b.0, same_shares t u a.1 b.1)
    same_occupation s r t u (inl a) (inr b) = absurd (not_unlisted a.1.entries r u a.1.list b)
    same_occupation s r t u (inr a) (inl b) = absurd (not_unlisted b.1.entries s t b.1.list a)
    same_occupation s r t u (inr a) (inr b) = same_unlisted s r t u a b
