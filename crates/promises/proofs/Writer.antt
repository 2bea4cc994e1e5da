-- W4 by citation.
use Rattle.shift_draft.proofs.Answers.{sealing, unsealing, seal-number, unseal-number}
use Rattle.shift_draft.proofs.Takes.{sealer_takes, opener_takes}
use Rattle.shift_draft.proofs.Back.{sealed_then_unsealed, unsealed_then_sealed}
use Rattle.shift_draft.proofs.Altered.{text_altered, data_altered}
use Rattle.promises.specs.Writer.{Writer}

pub writer : Writer
writer = record {
  sealed-back = sealed_then_unsealed;
  unsealed-back = unsealed_then_sealed;
  sealing = sealing;
  unsealing = unsealing;
  sealer_takes = sealer_takes;
  opener_takes = opener_takes;
  seal-numbers = seal-number;
  unseal-numbers = unseal-number;
  text_altered = text_altered;
  data_altered = data_altered;
}
