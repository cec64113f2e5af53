-- writers to a sink that held the byte 7, with the lines of two tokens, and with a front of a third, worked by hand
use Rattle.std.proofs.Common.{◌≡◌, [], ◌∷◌, Some, None, Ok, refl}
use Rattle.std.proofs.lemmas.List.Elements.{All-nil, All-cons}
use Rattle.certificate_model.specs.declared.token.Token.TheVariants.{Node, Site}
use Rattle.token_lines.specs.TokenLines.{FitsToken, token_line}
use Rattle.token_writer.specs.Writing.{StandsIn, TookLines, over_of}

two_nodes : StandsIn (Some (7 ∷ 110 ∷ 10 ∷ 110 ∷ 10 ∷ [])) 4 None (Node ∷ Node ∷ [])
unfolding token_line
two_nodes = (All-cons FitsToken Node (Node ∷ []) tt (All-cons FitsToken Node [] tt (All-nil FitsToken)), record { front = 7 ∷ []; ends = refl; many = refl })

cut_site : StandsIn (Some (7 ∷ 110 ∷ 10 ∷ 115 ∷ [])) 3 (Some (Site 5)) (Node ∷ [])
unfolding token_line
cut_site = (All-cons FitsToken Node [] tt (All-nil FitsToken), (1, record { front = 7 ∷ []; ends = refl; many = refl }))

written_before : over_of (Some (7 ∷ 110 ∷ 10 ∷ [])) 2 ≡ Some (7 ∷ [])
written_before = refl

took_a_node : TookLines {A = Unit {0}} (Some (7 ∷ [])) (Node ∷ []) (Some (7 ∷ 110 ∷ 10 ∷ [])) (Ok tt)
unfolding token_line
took_a_node = refl
