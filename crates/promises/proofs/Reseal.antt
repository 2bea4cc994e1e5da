-- W7, the reseal pass, by citation.
use Rattle.shift_reseal.proofs.Answers.{resealing, reseal-numbers}
use Rattle.shift_reseal.proofs.Promised.{renewing, nothing-retired, resealed_twice, of_check}
use Rattle.promises.specs.Reseal.{Reseal}

pub reseals : Reseal
reseals = record {
  renewing = renewing;
  nothing-retired = nothing-retired;
  twice = resealed_twice;
  clash = of_check;
  resealing = resealing;
  numbers = reseal-numbers;
}
