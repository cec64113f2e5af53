-- the end of a line that has two or three words behind its front
use Rattle.std.proofs.Common.{◌≡◌, ◌∙◌, ap, sym, ℕ, List, [], ◌∷◌, ◌++◌, append_assoc}

pub two_words : (front a b text line : List ℕ) → text ≡ front ++ (a ++ 32 ∷ (b ++ 10 ∷ [])) → line ≡ front ++ ((a ++ 32 ∷ b) ++ 10 ∷ []) → text ≡ line
two_words front a b text line wrote is = wrote ∙ ap (λ end. front ++ end) (sym (append_assoc a (32 ∷ b) (10 ∷ []))) ∙ sym is

pub three_words : (front a b d text line : List ℕ) → text ≡ front ++ (a ++ 32 ∷ (b ++ 32 ∷ (d ++ 10 ∷ []))) → line ≡ front ++ ((a ++ 32 ∷ (b ++ 32 ∷ d)) ++ 10 ∷ []) → text ≡ line
three_words front a b d text line wrote is =
    wrote ∙ ap (λ end. front ++ (a ++ 32 ∷ end)) (sym (append_assoc b (32 ∷ d) (10 ∷ []))) ∙ ap (λ end. front ++ end) (sym (append_assoc a (32 ∷ (b ++ 32 ∷ d)) (10 ∷ []))) ∙ sym is
