use Rattle.pic_8259.proofs.Requests.{in_order}
use Rattle.pic_8259.proofs.laws.requests_in_order.Goals as goal

pub returns : goal.returns
returns c = in_order
