use Rattle.std.proofs.Common.{◌<◌, ◌^◌, length, drop, arith, length-drop}
use Rattle.std.proofs.lemmas.Result.{on_ok_weaker}
use Rattle.eql_ckdisk.specs.Putting.{last_cut}
use Rattle.eql_ckdisk.proofs.PutCalls.{put_first, put_second, put_third, put_done, weaker, either}
use Rattle.eql_ckdisk.proofs.puts.put_block.Goals as goal

pub returns-in_err-write_through-clause-moments : goal.returns-in_err-write_through-clause-moments
returns-in_err-write_through-clause-moments g c =
    put_first c.crashes_leave_images.ensures.images (last_cut c.args.state) (drop 16 c.args.made.now) c.requires.room (omega (arith, length-drop 16 c.args.made.now))
    c.next_area-area.result c.next_area-area.ensures _ _ c.in_err-write_through.ensures.refused

pub returns-in_err-write_through-2-clause-moments : goal.returns-in_err-write_through-2-clause-moments
returns-in_err-write_through-2-clause-moments g c =
    put_second c.crashes_leave_images.ensures.images (last_cut c.args.state) (drop 16 c.args.made.now) c.requires.room (omega (arith, length-drop 16 c.args.made.now))
    c.next_area-area.result c.next_area-area.ensures
    _ c.requires.head
    _ _ _ c.in_ok-write_through.ensures.ok c.in_err-write_through-2.ensures.refused

pub returns-clause-moments : goal.returns-clause-moments
returns-clause-moments g c =
    let there = c.crashes_leave_images.ensures.images in
    let last = last_cut c.args.state in
    let short : length (drop 16 c.args.made.now) < 2 ^ 64 = omega (arith, length-drop 16 c.args.made.now) in
    either c.write_through-3.result _ _ _ c.write_through-3.ensures.ok c.write_through-3.ensures.refused
    (λ done.
    put_third there last (drop 16 c.args.made.now) c.requires.room short c.next_area-area.result c.next_area-area.ensures
    _ c.requires.head _ _ _ _ c.in_ok-write_through.ensures.ok c.in_ok-write_through-2.ensures.ok
    (weaker _ _ _ _ done))
    (λ refused.
    put_third there last (drop 16 c.args.made.now) c.requires.room short c.next_area-area.result c.next_area-area.ensures
    _ c.requires.head _ _ _ _ c.in_ok-write_through.ensures.ok c.in_ok-write_through-2.ensures.ok refused)

pub returns-clause-done : goal.returns-clause-done
returns-clause-done g c =
    on_ok_weaker c.write_through-3.result
    (put_done c.crashes_leave_images.ensures.images (last_cut c.args.state) (drop 16 c.args.made.now) c.requires.room (omega (arith, length-drop 16 c.args.made.now))
    c.next_area-area.result c.next_area-area.ensures
    _ c.requires.head
    _ _ _ _ c.requires.stands c.in_ok-write_through.ensures.ok c.in_ok-write_through-2.ensures.ok)
    c.write_through-3.ensures.ok
