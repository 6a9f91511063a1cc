use Rattle.rip_capture.proofs.ReaderLemmas.{Runs-on, Runs-stopped}
use Rattle.rip_capture.specs.declared.reader.Format.TheVariants.{Pcap, Pcapng}
use Rattle.rip_capture.proofs.reader.CaptureReader.find_packet.Goals as goal

pub returns-in-Ok-Pcap-clause-runs : goal.returns-in-Ok-Pcap-clause-runs
returns-in-Ok-Pcap-clause-runs g c =
    let S = g.R.Source in
    let begins = rw c.in-Ok-Pcap.field-0-is at c.in-Ok-Pcap.ensures in
    Runs-on S.given S.coming S.broken S.at_end c.args.self.now c.begin.new.self c.read_record.new.self (Pcap c.in-Ok-Pcap.header) c.read_record.result begins c.read_record.ensures.runs

pub returns-in-Ok-Pcapng-clause-runs : goal.returns-in-Ok-Pcapng-clause-runs
returns-in-Ok-Pcapng-clause-runs g c =
    let S = g.R.Source in
    let begins = rw c.in-Ok-Pcapng.field-0-is at c.in-Ok-Pcapng.ensures in
    Runs-on S.given S.coming S.broken S.at_end c.args.self.now c.begin.new.self c.read_blocks.new.self Pcapng c.read_blocks.result begins c.read_blocks.ensures.runs

pub returns-in-Err-clause-runs : goal.returns-in-Err-clause-runs
returns-in-Err-clause-runs g c =
    let S = g.R.Source in
    Runs-stopped S.given S.coming S.broken S.at_end c.args.self.now c.begin.new.self c.in-Err.error c.in-Err.ensures
