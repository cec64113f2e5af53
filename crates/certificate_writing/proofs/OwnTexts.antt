-- a problem has one own certificate
use Rattle.std.proofs.Common.{◌≡◌, ◌∙◌, sym, ap, subst, ℕ, ℤ, pos, List, Option}
use Rattle.std.specs.Prelude.{AllPairs}
use Rattle.charge_model.specs.declared.charge.Charge.{Charge}
use Rattle.charge_model.specs.Charges.{IsBefore}
use Rattle.charge_model.specs.Problem.{Problem}
use Rattle.charge_model.specs.GroundList.{Entry, IsMarkedGroundList, lists_of}
use Rattle.charge_model.specs.Tree.{IsLeastCertain}
use Rattle.certificate_model.specs.declared.token.Token.{Token}
use Rattle.walk_model.specs.Walks.{AreWalked}
use Rattle.prune_certificate.specs.Printed.{certificate_text}
use Rattle.certificate_writing.specs.Writing.{IsOwnCertificate}

pub one_own : (p : Problem) → ((es fs : List Entry) → IsMarkedGroundList p es → IsMarkedGroundList p fs → es ≡ fs) → ((a b : Option ℤ) → IsLeastCertain p a → IsLeastCertain p b → a ≡ b)
    → ((o : Option ℤ) (l : List (List Charge)) (ts us : List Token) → AllPairs IsBefore l → AreWalked p (pos 0) o l ts → AreWalked p (pos 0) o l us → ts ≡ us)
    → (a b : List ℕ) → IsOwnCertificate p a → IsOwnCertificate p b → a ≡ b
one_own p one_list one_bound one_walk a b x y =
    let list = one_list x.list y.list x.marked y.marked in
    let bound = one_bound x.bound y.bound x.least y.least in
    let up_to = subst (λ o. AreWalked p (pos 0) o (lists_of y.list) y.whole.tokens) (sym bound) y.whole.walked in
    let walked = subst (λ es. AreWalked p (pos 0) x.bound (lists_of es) y.whole.tokens) (sym list) up_to in
    let tokens = one_walk x.bound (lists_of x.list) x.whole.tokens y.whole.tokens x.marked.ground.in_order x.whole.walked walked in
    x.whole.prints ∙ ap (λ ts. certificate_text p x.list ts) tokens ∙ ap (λ es. certificate_text p es y.whole.tokens) list ∙ sym y.whole.prints
