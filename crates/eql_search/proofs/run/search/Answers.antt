use Rattle.std.proofs.Common.{rules, ◌≡◌, sym}
use Rattle.eql_search.specs.Outcomes.{AreInBounds, MaySearch}
use Rattle.eql_search.specs.Searches.{reads_by, slack_by}
use Rattle.eql_search.proofs.Searching.{ends}
use Rattle.eql_search.proofs.Texts.{are_of_texts}
use Rattle.eql_search.proofs.run.search.Goals as goal

pub search_lanes-ran-requires-clause-texts : goal.search_lanes-ran-requires-clause-texts
search_lanes-ran-requires-clause-texts g c =
    let may : MaySearch g.S.Source g.L.LineReader g.D.Disk g.known_texts c.args.rules c.args.lanes.now.items c.args.holders c.args.run.now = search rules in
    let taken : c.replace-taken.result.items ≡ c.args.lanes.now.items = λ i. (c.replace-taken.ensures.value i).items in
    λ κs lives. rw taken (are_of_texts g.S.Source.left g.known_texts c.args.lanes.now.items may.texts_are)

pub search_lanes-ran-requires-clause-some : goal.search_lanes-ran-requires-clause-some
search_lanes-ran-requires-clause-some g c =
    let may : MaySearch g.S.Source g.L.LineReader g.D.Disk g.known_texts c.args.rules c.args.lanes.now.items c.args.holders c.args.run.now = search rules in
    let taken : c.replace-taken.result.items ≡ c.args.lanes.now.items = λ i. (c.replace-taken.ensures.value i).items in
    λ κs lives. rw taken may.some

pub search_lanes-ran-requires-clause-few : goal.search_lanes-ran-requires-clause-few
search_lanes-ran-requires-clause-few g c =
    let may : MaySearch g.S.Source g.L.LineReader g.D.Disk g.known_texts c.args.rules c.args.lanes.now.items c.args.holders c.args.run.now = search rules in
    let taken : c.replace-taken.result.items ≡ c.args.lanes.now.items = λ i. (c.replace-taken.ensures.value i).items in
    λ κs lives. rw taken may.few

pub search_lanes-ran-requires-clause-lanes : goal.search_lanes-ran-requires-clause-lanes
search_lanes-ran-requires-clause-lanes g c =
    let may : MaySearch g.S.Source g.L.LineReader g.D.Disk g.known_texts c.args.rules c.args.lanes.now.items c.args.holders c.args.run.now = search rules in
    let taken : c.replace-taken.result.items ≡ c.args.lanes.now.items = λ i. (c.replace-taken.ensures.value i).items in
    λ κs lives. rw taken may.begun

pub search_lanes-ran-requires-clause-begins : goal.search_lanes-ran-requires-clause-begins
search_lanes-ran-requires-clause-begins g c =
    let may : MaySearch g.S.Source g.L.LineReader g.D.Disk g.known_texts c.args.rules c.args.lanes.now.items c.args.holders c.args.run.now = search rules in
    let taken : c.replace-taken.result.items ≡ c.args.lanes.now.items = λ i. (c.replace-taken.ensures.value i).items in
    λ κs lives. rw taken may.begins

pub search_lanes-ran-requires-clause-keeps : goal.search_lanes-ran-requires-clause-keeps
search_lanes-ran-requires-clause-keeps g c =
    let may : MaySearch g.S.Source g.L.LineReader g.D.Disk g.known_texts c.args.rules c.args.lanes.now.items c.args.holders c.args.run.now = search rules in
    let taken : c.replace-taken.result.items ≡ c.args.lanes.now.items = λ i. (c.replace-taken.ensures.value i).items in
    λ κs lives. rw taken may.keeps

pub search_lanes-ran-requires-clause-whole : goal.search_lanes-ran-requires-clause-whole
search_lanes-ran-requires-clause-whole g c =
    let may : MaySearch g.S.Source g.L.LineReader g.D.Disk g.known_texts c.args.rules c.args.lanes.now.items c.args.holders c.args.run.now = search rules in
    λ κs lives. may.whole

pub returns : goal.returns
returns g c =
    let lanes = c.args.lanes.now.items in
    let read_of = g.L.LineReader.read_of in
    let asked : AreInBounds c.args.run.now.plan c.args.rules c.args.hands = search rules in
    let may : MaySearch g.S.Source g.L.LineReader g.D.Disk g.known_texts c.args.rules c.args.lanes.now.items c.args.holders c.args.run.now = search rules in
    let ran = c.search_lanes-ran in
    let taken : c.replace-taken.result.items ≡ c.args.lanes.now.items = λ i. (c.replace-taken.ensures.value i).items in
    let back : c.search_lanes-ran.result.1.items ≡ c.replace.new.dest.items = λ i. (sym c.replace.ensures.after i).items in
    let all =
    ends g.S.Source g.L.LineReader g.K.Sink g.D.Disk (reads_by read_of lanes) (slack_by read_of lanes) c.args.rules
    g.known_texts lanes c.args.holders c.args.sink.now c.args.run.now may.begun may.texts_are may.keeps
    (g.met.L.LineReader g.world.𝓛 g.world.𝓜 g.world.𝓡 ((λ s x. x), (λ x. x), (λ x. x), λ x. x)).reads_at asked.batch_from asked.batch_to may.some may.few asked.is_span may.whole may.begins c.replace.new.dest.items c.replace-taken.result.items c.search_lanes-ran.result.1.items
    ran.new.sink ran.new.run ran.result.0 taken back ran.ensures in
    record {
      wrote = record { whole = all.whole; front = all.front; silent = all.follows.silent };
      keeps = all.keeps_so;
      lanes = record { closed = all.closed; read = all.read; stay = all.lanes; texts_are = all.texts };
      stops = record {
        cause = all.cause;
        reads_steady = all.steady;
        writes_steady = all.writes_steady;
        disk_steady = all.disk_steady;
        writes_rise = all.sink_counts;
        disks_rise = all.disk_counts;
      };
      unfailing = λ sink sources disk.
          let wrote = all.follows.unfailing sink in
          let put = all.follows.unfailing_disk disk in
          let so = all.unfailing sources wrote.0 put.0 in
          (so.0, wrote.1, so.1, put.1);
    }
