use Rattle.eql_cli.proofs.program.eql_main.Goals as goal

pub returns : goal.returns
returns g c =
    let e = c.run_words-status.ensures.ends in
    record {
      done = e.done;
      accepted = e.accepted;
      prefix = e.prefix;
      listed = e.listed;
      refused = e.refused;
      cut_kept = e.cut_kept;
      told = e.told;
      absent = e.absent;
      words = e.words;
      no_words = e.no_words;
      read = e.read;
      write = e.write;
      disk = e.disk;
      cut = e.cut;
      limit = e.limit;
      reads_told = e.reads_told;
      absences_told = e.absences_told;
      writes_told = e.writes_told;
      disks_told = e.disks_told;
      held_told = e.held_told;
      errors_told = e.errors_told;
      complete = e.complete;
      grounded = e.grounded;
      exact = e.exact;
      kept = e.kept;
      lent = e.lent;
      back = e.back;
      moments = e.moments;
      disk_kept = λ never.
          let same = e.disk_kept never in
          (same.history_is, same.out_is, same.faults_are, same.plan_is, same.held_are, same.free_is);
      counts = (e.reads_rise, e.absences_rise, e.disks_rise, e.held_rise, e.writes_rise, e.errors_rise);
    }
