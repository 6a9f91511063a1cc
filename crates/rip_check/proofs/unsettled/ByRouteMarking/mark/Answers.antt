use Rattle.rip_check.proofs.unsettled.ByRouteMarking.mark.Goals as goal

pub returns-in-Some : goal.returns-in-Some
returns-in-Some g c =
    let place = c.in-Some.place in
    let here = c.in-Some.ensures.some in
    record {
      sound = tt;
      fails = (
        c.get.ensures.low,
        c.get.ensures.high,
        record {
          route = record { metric = place.metric; way = place.way };
          fits = rw (here.0, here.1) at here.2.fits;
          fails = rw (here.0, here.1) at here.2.fails;
          equation = rw c.get.ensures.value (rw (here.0, here.1) at here.2.equation);
        },
      );
    }
