-- the parts of the tree that lie below a node
use Rattle.std.proofs.Common.{◌≡◌, ◌≢◌, ℕ, ◌+◌, ◌*◌, ◌-◌, ◌^◌, ◌<◌, ◌≤◌, ℤ, List, [], ◌∷◌, ◌++◌, length, ◌⊎◌, inl, inr, Option, length-append, sym, ap, subst, arith}
use Rattle.charge_model.specs.declared.charge.Charge.{Charge}
use Rattle.charge_model.specs.declared.charge.Charge.TheVariants.{Neg, Neutral, Pos}
use Rattle.charge_model.specs.Problem.{Problem}
use Rattle.charge_model.specs.Tree.{node_count}
use Rattle.certificate_model.specs.declared.token.Token.{Token}
use Rattle.certificate_model.specs.declared.token.Token.TheVariants.{Node}
use Rattle.tree_leaves.specs.Subtree.{nodes_under, nodes_beyond}
use Rattle.walk_model.specs.Walks.{AreWalked}
use Rattle.written_tokens.specs.Guiding.{Guiding, IsTokenAt}
use Rattle.certificate_walk.specs.Walking.{IsWalkOf, AreWalksBelow, FollowToken}
use Rattle.certificate_walk.proofs.Opening.{IsOnly, some_token, split, whole_walk, tokens_of}
use Rattle.certificate_walk.proofs.Nodes.{prefix_push, few_third}
use Rattle.shared_check.specs.Parts.{IsPart, ArePartsBelow, IsGuideOf}

-- the prefix of a part has a token
pub token_of : (g : Guiding) (q : List Charge) → IsPart g q → (token : Token) × IsTokenAt g q token
token_of g q part = some_token g q part.tokens part.walk

-- a sink that may have taken no token has room for so many
pub room_for : (n : ℕ) → n ≤ 2 ^ 64 - 1 → 0 + n ≤ 2 ^ 64 - 1
room_for n few = omega (arith, few)

module _ (g : Guiding) (q : List Charge) (part : IsPart g q) (room : length q < g.problem.sites)
    (counted : nodes_under g.problem g.threshold q ≡ nodes_beyond g.problem g.threshold q + 1) where
  short : (x : Charge) → length (q ++ x ∷ []) ≤ g.problem.sites
  short x = omega (arith, room, length-append q (x ∷ []))

  few_below : nodes_beyond g.problem g.threshold q < 2 ^ 64
  few_below = let few = part.few in omega (arith, counted, few)

  walked_below : (rest : List Token) → part.tokens ≡ Node ∷ rest → AreWalksBelow g q rest → ArePartsBelow g q
  walked_below rest opened (first, second, third, whole, below, middle, above) =
      let fits = part.fits in
      let long : length first + (length second + length third) ≤ 2 ^ 64 - 1
      = omega (arith, fits, ap length opened, ap length whole, length-append first (second ++ third), length-append second third) in
      record {
        few = few_below;
        negative = record { prefix = prefix_push g.problem q Neg part.prefix (short Neg) (λ two same. absurd cc); few = omega (arith, few_below); tokens = first; walk = below; fits = omega (arith, long) };
        neutral = record { prefix = prefix_push g.problem q Neutral part.prefix (short Neutral) (λ two same. absurd cc); few = omega (arith, few_below); tokens = second; walk = middle; fits = omega (arith, long) };
        positive = λ other. by other long above;
      }
    where
      by : g.problem.base ≢ 2 → length first + (length second + length third) ≤ 2 ^ 64 - 1
          → ((g.problem.base ≡ 2) × (third ≡ [])) ⊎ ((g.problem.base ≢ 2) × IsWalkOf g (q ++ Pos ∷ []) third) → IsPart g (q ++ Pos ∷ [])
      by other long (inl (two, none)) = absurd (other two)
      by other long (inr (apart, walk)) = record {
        prefix = prefix_push g.problem q Pos part.prefix (short Pos) (λ two. absurd (other two));
        few = few_third g.problem g.threshold q (2 ^ 64) other few_below;
        tokens = third;
        walk = walk;
        fits = omega (arith, long);
      }

  -- those with one more charge, where the prefix has the token of a node alone
  pub parts_below : (token : Token) → IsOnly g q token → token ≡ Node → ArePartsBelow g q
  parts_below token only node =
      let s = split g q token only part.tokens part.walk in
      walked_below s.0 (subst (λ t. part.tokens ≡ t ∷ s.0) node s.1) (subst (λ t. FollowToken g q t s.0) node s.2)

-- the whole tree is a part
pub whole_part : (p : Problem) (window : ℤ) (o : Option ℤ) (l : List (List Charge)) (g : Guiding) (tokens : List Token) → IsGuideOf p window o l g → AreWalked p window o l tokens
    → length tokens ≤ 3 * node_count p o + 1 → node_count p o ≤ 10000000 → nodes_under p o [] ≡ node_count p o → IsPart g []
whole_part p window o l g tokens guide walked few small whole =
    let small_here : nodes_under p o [] < 2 ^ 64 = omega (arith, small, whole) in
    record {
      prefix = record { short = omega arith; of_base = tt };
      few = subst (λ r. nodes_under g.problem r [] < 2 ^ 64) (sym guide.most) (subst (λ r. nodes_under r o [] < 2 ^ 64) (sym guide.problem) small_here);
      tokens = tokens;
      walk = whole_walk g tokens (tokens_of g p window o l tokens guide.problem guide.width guide.most guide.lists walked);
      fits = omega (arith, few, small);
    }
