-- Each contract says it.
use Rattle.promises.specs.Routines.{Routines}

pub routines : Routines
routines = record {
  seal = λ κs suite key nonce ad msg out tag x. x.ensures;
  unseal = λ κs suite key nonce ad text tag out x. x.ensures;
  seal_counted = λ κs suite key nonce ad msg out tag x. x.ensures;
  unseal_counted = λ κs suite key nonce ad text tag out x. x.ensures;
  seal_in_place = λ κs suite key nonce ad text tag x. x.ensures;
  unseal_in_place = λ κs suite key nonce ad text tag x. x.ensures;
  verify = λ κs suite key nonce ad text tag x. x.ensures;
  session_start = λ κs suite key nonce x. x.ensures;
  session_data = λ κs s part x. x.ensures;
  session_part = λ κs s part out x. x.ensures;
  session_end = λ κs s out tag x. x.ensures;
  check = λ κs file x. x.ensures;
  lookup = λ κs file job x. x.ensures;
  entry = λ κs file job x. x.ensures;
  associated = λ κs file job x. x.ensures;
  open_job = λ κs file ring job out x. x.ensures;
  verified = λ κs file ring job x. x.ensures;
  search = λ κs file job x. x.ensures;
  seal_file = λ κs draft ring out x. x.ensures;
  unseal_file = λ κs file ring out x. x.ensures;
  reseal = λ κs file ring out x. x.ensures;
  locate = λ κs amendment day job x. x.ensures;
  current = λ κs amendment day job x. x.ensures;
  open_current = λ κs amendment day ring job out x. x.ensures;
  moved_length = λ κs file x. x.ensures;
  to_edition2 = λ κs file out x. x.ensures;
  to_edition1 = λ κs file out x. x.ensures;
  compare = λ κs f g first second differ x. x.ensures;
  start = λ κs file x. x.ensures;
  ask = λ κs c file x. x.ensures;
  report = λ κs file ring jobs numbers x. x.ensures;
  header = λ κs file x. x.ensures;
  row = λ κs file i x. x.ensures;
}
