-- ranges of depths: `A:B`, two decimals with A at most B
use Rattle.std.specs.Prelude.{◌≡◌, ℤ, [], ◌∷◌}
use Rattle.gate_model.specs.Pairs.{between_colons}
use Rattle.clap.specs.Walk.{Text}
use Rattle.sidb_units.specs.Decimal.{IsReadAs}
use Rattle.model_params.specs.Quantities.{level_depth}
use Rattle.command_words.specs.declared.settings.DepthRange.{DepthRange}

-- a word is a depth, in 10^-12 V
abbrev pub IsDepth : Text → ℤ → Type 0
IsDepth word v = IsReadAs word level_depth.places level_depth.least level_depth.greatest v

-- a text is the two ends of a range, which by its type are in order
pub record AreDepths (text : Text) (r : DepthRange) : Type 0 where
  pub first : Text
  pub second : Text
  pub words : between_colons text ≡ first ∷ second ∷ []
  pub from : IsDepth first r.from
  pub to : IsDepth second r.to
