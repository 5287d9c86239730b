use Rattle.eql_outside.proofs.Landing.{lands, images, seen_left}
use Rattle.eql_outside.proofs.laws.crashes_leave_images.Goals as goal

pub returns-clause-lands : goal.returns-clause-lands
returns-clause-lands c = lands

pub returns-clause-images : goal.returns-clause-images
returns-clause-images c = images

pub returns-clause-seen : goal.returns-clause-seen
returns-clause-seen c = seen_left
