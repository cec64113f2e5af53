-- lines of tokens as they stand in certificates, byte by byte
use Rattle.std.proofs.Common.{◌≡◌, [], ◌∷◌, refl}
use Rattle.std.specs.Fmt.{digits}
use Rattle.certificate_model.specs.declared.token.Token.TheVariants.{Node, Site, Energy, Listed, Population, Hop, Beaten}
use Rattle.token_lines.specs.TokenLines.{token_line, token_text}

-- n
node_line : token_line Node ≡ 110 ∷ 10 ∷ []
unfolding token_line digits
node_line = refl

-- s 12
site_line : token_line (Site 12) ≡ 115 ∷ 32 ∷ 49 ∷ 50 ∷ 10 ∷ []
unfolding token_line digits
site_line = refl

-- e 0, l 1 and p 2
three_lines : token_text (Energy 0 ∷ Listed 1 ∷ Population 2 ∷ []) ≡ 101 ∷ 32 ∷ 48 ∷ 10 ∷ 108 ∷ 32 ∷ 49 ∷ 10 ∷ 112 ∷ 32 ∷ 50 ∷ 10 ∷ []
unfolding token_line digits
three_lines = refl

-- h 3 45 and b 4095
two_lines : token_text (Hop 3 45 ∷ Beaten 4095 ∷ []) ≡ 104 ∷ 32 ∷ 51 ∷ 32 ∷ 52 ∷ 53 ∷ 10 ∷ 98 ∷ 32 ∷ 52 ∷ 48 ∷ 57 ∷ 53 ∷ 10 ∷ []
unfolding token_line digits
two_lines = refl
